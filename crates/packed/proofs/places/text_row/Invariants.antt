-- `packed::places::text_row` meets its contract. The loop's invariant: the first i stand in front. Assumes nothing.
use Rattle.packed.specs.Packed.{text_bytes}
use Rattle.packed.proofs.Bytes.{Laid}
use Rattle.packed.proofs.places.text_row.Given as goal

abbrev pub invariant-loop-i : goal.invariant-loop-i
invariant-loop-i l = Laid text_bytes 21 15 l.text-items l.row l.i
