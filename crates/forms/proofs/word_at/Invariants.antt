-- `forms::word_at` meets its contract. The loop's invariant: the place is that of the words passed and of the place among the rest.
-- Assumes nothing.
use Prim.Native.Nat.{◌+◌}
use mathlib.Core.Path.{◌≡◌}
use lib.ListN.{drop}
use Rattle.forms.specs.Forms.{word_at}
use Rattle.forms.specs.Slots.{words_of}
use Rattle.forms.proofs.word_at.Given as goal

abbrev pub invariant-loop-i : goal.invariant-loop-i
invariant-loop-i l = word_at (words_of l.words) l.value ≡ l.i + word_at (drop l.i (words_of l.words)) l.value
