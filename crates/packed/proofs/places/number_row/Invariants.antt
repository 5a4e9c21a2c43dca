-- `packed::places::number_row` meets its contract. The loop's invariant: the first i stand in front. Assumes nothing.
use Rattle.packed.specs.Packed.{number_bytes}
use Rattle.packed.proofs.Bytes.{Laid}
use Rattle.packed.proofs.places.number_row.Given as goal

abbrev pub invariant-loop-i : goal.invariant-loop-i
invariant-loop-i l = Laid (number_bytes 8) 8 7 l.number-items l.row l.i
