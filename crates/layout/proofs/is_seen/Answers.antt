-- `layout::is_seen` meets its contract. Assumes nothing.
use mathlib.Core.Path.{refl}
use Rattle.layout.specs.Layout.{is_seen}
use Rattle.layout.proofs.Rows.{unseen}
use Rattle.layout.proofs.is_seen.Goals as goal

pub returns-then-slot-seen : goal.returns-then-slot-seen
unfolding is_seen
returns-then-slot-seen c = refl

pub returns-else-slot-seen : goal.returns-else-slot-seen
returns-else-slot-seen c = unseen _ _ c.if-slot-seen.false
