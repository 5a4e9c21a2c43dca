-- What callers cite: one test over all slots of a message type, and the rule at each. A fixed text has at most sixteen bytes, and a fixed
-- text and the words of a form are of 20 to 7E hex.
-- Assumes nothing.
use Prim.Native.Nat.{ℕ, zero, suc, ◌≤◌}
use mathlib.Core.Path.{◌≡◌, refl}
use mathlib.Core.Bool.{Bool, true, ◌&&◌}
use mathlib.Core.List.{List, [], ◌∷◌}
use native.Mathlib.Omega.{arith}
use lib.Dec.{leb}
use lib.ListN.{length, get_or}
use borrow.Author.Tests.{leb-true}
use Rattle.text.specs.Bytes.{bytes}
use Rattle.text.specs.Classes.{printed}
use Rattle.text.proofs.Laws.{and_left, and_right}
use Rattle.forms.specs.Forms.{Slot, other}
use Rattle.forms.specs.Notation.{slot}
use Rattle.measure.specs.Measure.{clean_form, clean_slot}

abbrev pub short : List Slot → Bool
short [] = true
short (s ∷ ss) = leb (length s.fixed) 16 && short ss

pub short-at : (ss : List Slot) (i : ℕ) → short ss ≡ true → length (get_or ss i (slot "" other)).fixed ≤ 16
unfolding bytes
short-at [] i e = omega arith
short-at (s ∷ ss) zero e = leb-true (length s.fixed) 16 (and_left _ _ e)
short-at (s ∷ ss) (suc i) e = short-at ss i (and_right (leb (length s.fixed) 16) _ e)

abbrev pub clean : List Slot → Bool
clean [] = true
clean (s ∷ ss) = clean_slot s && clean ss

pub clean_at : (ss : List Slot) (i : ℕ) → clean ss ≡ true → clean_slot (get_or ss i (slot "" other)) ≡ true
unfolding bytes clean_slot clean_form printed
clean_at [] i e = refl
clean_at (s ∷ ss) zero e = and_left _ _ e
clean_at (s ∷ ss) (suc i) e = clean_at ss i (and_right (clean_slot s) _ e)
