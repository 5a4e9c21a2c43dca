-- `layout::mark` meets its contract. Assumes nothing.
use mathlib.Core.Path.{sym}
use lib.Seq.{set_out}
use Rattle.layout.proofs.mark.Goals as goal

pub returns-else-slot-seen : goal.returns-else-slot-seen
returns-else-slot-seen c = sym (set_out _ _ _ c.if-slot-seen.false)
