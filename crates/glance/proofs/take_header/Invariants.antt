-- `glance::take_header` meets its contract. The loop's invariant: the lines so far, whatever follows them, and the places kept of them.
-- Assumes nothing.
use Rattle.forms.specs.Slots.{slot_at}
use Rattle.glance.proofs.Turns.{Head}
use Rattle.glance.proofs.take_header.Given as goal

abbrev pub invariant-loop-slot : goal.invariant-loop-slot
invariant-loop-slot l = Head (slot_at l.slots) l.header l.text l.initial.starts l.initial.ends l.starts l.ends l.at l.slot-index
