-- `forms::word_in` meets its contract. The loop's invariant: the place is that of the words passed and of the place among the rest.
-- Assumes nothing.
use Prim.Native.Nat.{◌+◌}
use mathlib.Core.Path.{◌≡◌}
use lib.ListN.{drop}
use Rattle.forms.specs.Forms.{word_at}
use Rattle.forms.specs.Slots.{words_in}
use Rattle.forms.proofs.word_in.Given as goal

abbrev pub invariant-loop-k : goal.invariant-loop-k
invariant-loop-k l = word_at (words_in l.slots l.from l.lines) l.value ≡ l.k + word_at (drop l.k (words_in l.slots l.from l.lines)) l.value
