-- Some bytes are a list of slots: one test over all their lines, and the laws that give it at each slot.
-- Assumes nothing.
use Prim.Native.Nat.{ℕ, zero, suc, ◌+◌, ◌*◌, ◌/◌, ◌≤◌, ◌<◌}
use mathlib.Core.Path.{◌≡◌, refl, sym, ap, ◌∙◌}
use mathlib.Core.Bool.{Bool, true, false}
use mathlib.Core.List.{List, [], ◌∷◌}
use native.Mathlib.Nat.{add-zero, zero-add, add-suc, suc-add, not-suc-le-zero, le_of_suc-le-suc}
use native.Mathlib.Omega.{arith}
use lib.Dec.{ltb}
use lib.ListN.{length, get_or, get_or-eq_default}
use borrow.Author.Tests.{ltb-true, ltb-false}
use Rattle.forms.specs.Forms.{Slot, other}
use Rattle.forms.specs.Slots.{slot_at}
use Rattle.forms.proofs.Parts.{slot-none}

-- the slots of some bytes, from the k-th on
abbrev pub places : List ℕ → ℕ → ℕ → List Slot
places t k zero = []
places t k (suc n) = slot_at t k ∷ places t (suc k) n

place_is : (t : List ℕ) (k n i : ℕ) (d : Slot) → i < n → get_or (places t k n) i d ≡ slot_at t (k + i)
place_is t k zero i d h = absurd (not-suc-le-zero h)
place_is t k (suc n) zero d h = rw add-zero
place_is t k (suc n) (suc i) d h = place_is t (suc k) n i d (le_of_suc-le-suc h) ∙ rw (suc-add, add-suc)

length-places : (t : List ℕ) (k n : ℕ) → length (places t k n) ≡ n
length-places t k zero = refl
length-places t k (suc n) = ap suc (length-places t (suc k) n)

-- where the first n lines are some slots
module _ (ss : List Slot) (t : List ℕ) (n : ℕ) (are : places t 0 n ≡ ss) where
  pub slot-below : (d : Slot) (i : ℕ) → i < n → slot_at t i ≡ get_or ss i d
  slot-below d i h = sym (ap (λ (l : List Slot). get_or l i d) (sym are) ∙ place_is t 0 n i d h ∙ ap (slot_at t) (zero-add i))

  -- and there are no more lines
  pub slots-are : length t ≡ n * 20 → (i : ℕ) → slot_at t i ≡ get_or ss i (record { fixed = []; form = other })
  slots-are l i = go (ltb i n) refl
    where
      go : (b : Bool) → ltb i n ≡ b → slot_at t i ≡ get_or ss i (record { fixed = []; form = other })
      go true h = slot-below _ i (ltb-true i n h)
      go false h =
          let m : n ≤ i = ltb-false i n h in
          let q : length t / 20 ≤ i = omega arith in
          let k : length ss ≤ i = let e = sym (ap length are) ∙ length-places t 0 n in omega arith in
          slot-none t i q ∙ sym (get_or-eq_default ss (record { fixed = []; form = other }) k)
