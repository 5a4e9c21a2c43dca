-- `walk::walk` meets its contract. The loop's invariant: the lines taken so far and those ahead are all that the walk comes to.
-- Assumes nothing.
use Prim.Native.Nat.{◌-◌}
use lib.ListN.{length}
use Rattle.layout.specs.Rows.{rows_of}
use Rattle.forms.specs.Slots.{slot_at}
use Rattle.walk.proofs.Lines.{Kept}
use Rattle.walk.proofs.walk.Given as goal

abbrev pub invariant-loop-at : goal.invariant-loop-at
invariant-loop-at l = Kept (rows_of l.rows) (slot_at l.slots) l.message l.starts l.ends l.begun l.ended l.seen l.here l.fault l.at l.n

abbrev pub decreases-loop-at : goal.decreases-loop-at
decreases-loop-at l = length l.message - l.at
