-- `unpacked::write` meets its contract. Assumes nothing.
use mathlib.Core.Path.{◌≡◌}
use Rattle.std.proofs.Common.{rules}
use Rattle.unpacked.specs.Unpacked.{record_in}
use Rattle.unpacked.proofs.write.Goals as goal

pub returns : goal.returns
unfolding record_in
returns c =
    let held : c.unwrap_or_else-trade.result ≡ record_in c.args.packed.now = search (rules) in
    rw (← held) c.write.ensures
