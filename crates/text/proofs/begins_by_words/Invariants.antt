-- `text::begins_by_words` meets its contract. The loop's invariant: what is left of the key and of the part answers as the whole does.
-- Assumes nothing.
use Prim.Native.Nat.{◌≤◌, ◌-◌}
use mathlib.Core.Path.{◌≡◌}
use lib.ListN.{length, drop}
use Rattle.text.specs.Bytes.{begins}
use Rattle.text.proofs.begins_by_words.Given as goal

abbrev pub invariant-loop-i : goal.invariant-loop-i
invariant-loop-i l = (l.i ≤ length l.key) × (begins (drop l.i l.key) (drop l.i l.part) ≡ begins l.key l.part)

abbrev pub decreases-loop-i : goal.decreases-loop-i
decreases-loop-i l = length l.key - l.i
