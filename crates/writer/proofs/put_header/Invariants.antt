-- `writer::put_header` meets its contract. The loop's invariant: what is put, with the lines still ahead, is the whole header.
-- Assumes nothing.
use Rattle.stretches.specs.Stretches.{stretch_of}
use Rattle.forms.specs.Slots.{slot_at}
use Rattle.writer.proofs.Header.{Same}
use Rattle.writer.proofs.put_header.Given as goal

abbrev pub invariant-loop-slot : goal.invariant-loop-slot
invariant-loop-slot l = Same (slot_at l.slots) (stretch_of l.text l.starts l.ends) l.header l.initial.buf l.buf l.at l.slot-index
