-- `glance::take_body` meets its contract. The loop's invariant: the lines so far, whatever follows them, and the places kept of them.
-- Assumes nothing.
use Prim.Native.Nat.{◌-◌}
use lib.ListN.{length}
use Rattle.layout.specs.Rows.{rows_of}
use Rattle.forms.specs.Slots.{slot_at}
use Rattle.glance.proofs.Turns.{Body}
use Rattle.glance.proofs.take_body.Given as goal

abbrev pub invariant-loop-here : goal.invariant-loop-here
invariant-loop-here l = Body (rows_of l.rows) (slot_at l.slots) l.text l.from l.initial.starts l.initial.ends l.starts l.ends l.seen l.here l.last l.stop l.at

abbrev pub decreases-loop-here : goal.decreases-loop-here
decreases-loop-here l = length l.text - l.at
