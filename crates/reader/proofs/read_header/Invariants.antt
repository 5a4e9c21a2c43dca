-- `reader::read_header` meets its contract. The loop's invariant: the first fault and the places so far, with the lines still
-- ahead, are those of the whole header. Assumes nothing.
use Rattle.forms.specs.Slots.{slot_at}
use Rattle.reader.proofs.Passes.{Kept}
use Rattle.reader.proofs.read_header.Given as goal

abbrev pub invariant-loop-i : goal.invariant-loop-i
invariant-loop-i l = Kept (slot_at l.slots) l.message l.header l.initial.starts l.initial.ends l.starts l.ends l.fault l.at l.i
