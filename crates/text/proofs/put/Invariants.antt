-- `text::put` meets its contract. The loop's invariant: the buffer is what it was, with the first i bytes of the part in it.
-- Assumes nothing.
use mathlib.Core.Path.{◌≡◌}
use lib.ListN.{length}
use lib.Seq.{paste}
use Rattle.text.proofs.put.Given as goal

abbrev pub invariant-loop-i : goal.invariant-loop-i
invariant-loop-i l = (l.buf ≡ paste l.initial.buf l.at l.part l.i) × (length l.buf ≡ length l.initial.buf)
