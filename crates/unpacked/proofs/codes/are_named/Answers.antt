-- `unpacked::codes::are_named` meets its contract. Assumes nothing.
use mathlib.Core.Path.{refl}
use Rattle.unpacked.specs.Unpacked.{named}
use Rattle.unpacked.proofs.codes.are_named.Goals as goal

pub returns : goal.returns
unfolding named
returns c = refl
