-- `unpacked::unpack` meets its contract. Assumes nothing.
use Rattle.std.proofs.Common.{rules}
use Rattle.unpacked.specs.Unpacked.{unpacked_of}
use Rattle.unpacked.proofs.unpack.Goals as goal

pub returns : goal.returns
unfolding unpacked_of
returns c = search (rules)
