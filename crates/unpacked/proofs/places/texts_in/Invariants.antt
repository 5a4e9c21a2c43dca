-- `unpacked::places::texts_in` meets its contract. The loop's invariant: the first i are right. Assumes nothing.
use Rattle.unpacked.specs.Unpacked.{text_from}
use Rattle.unpacked.proofs.Bytes.{Read}
use Rattle.unpacked.proofs.places.texts_in.Given as goal

abbrev pub invariant-loop-i : goal.invariant-loop-i
invariant-loop-i l = Read text_from 21 15 4 l.packed l.text-items l.i
