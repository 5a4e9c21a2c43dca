-- `unpacked::places::numbers_in` meets its contract. The loop's invariant: the first i are right. Assumes nothing.
use Rattle.unpacked.specs.Unpacked.{number_from}
use Rattle.unpacked.proofs.Bytes.{Read}
use Rattle.unpacked.proofs.places.numbers_in.Given as goal

abbrev pub invariant-loop-i : goal.invariant-loop-i
invariant-loop-i l = Read number_from 8 7 319 l.packed l.number-items l.i
