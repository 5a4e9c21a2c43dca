-- The fields of a message type are slots of its layout, and none that is there is empty: one test of their numbers, and a fact of each
-- slot that has bytes in front of its field beside the fixed text.
-- Assumes nothing.
use Prim.Native.Nat.{ℕ, suc, ◌+◌, ◌≤◌, ◌<◌}
use mathlib.Core.Path.{◌≡◌, refl, ap}
use mathlib.Core.Bool.{Bool, true, false, ◌&&◌, ◌||◌, not}
use mathlib.Core.List.{List, [], ◌∷◌, ◌++◌, append-nil}
use native.Mathlib.Omega.{arith}
use lib.Dec.{leb, eqb}
use lib.ListN.{length, drop, length-append}
use borrow.Author.Tests.{eqb-true, eqb-false, leb-true, le-leb, not-true}
use Rattle.text.specs.Classes.{is_between}
use Rattle.text.proofs.Laws.{and_left, and_right, begins-is}
use Rattle.forms.specs.Forms.{Slot, value_number}
use Rattle.forms.proofs.Laws.{value-begins}
use Rattle.sheets.specs.Slots.{slots_of}
use Rattle.sheets.specs.Sheets.{has}
use Rattle.format.specs.Format.{Format}
use Rattle.format.specs.Field.{front_of}
use Rattle.format.proofs.Tests.{all_below, all-at}
use Rattle.format.proofs.Field.{Fields}

-- a value of a slot whose fixed text alone is none is longer than that
behind-fixed : (slot : Slot) (v : List ℕ) → (value_number slot slot.fixed ≡ 0 → ⊥) → value_number slot v ≡ 0 → length slot.fixed < length v
behind-fixed slot v more h = go (drop (length slot.fixed) v) (begins-is slot.fixed v (value-begins slot v h))
  where
    go : (rest : List ℕ) → v ≡ slot.fixed ++ rest → length slot.fixed < length v
    go [] e = absurd (more (rw (e, append-nil slot.fixed) at h))
    go (b ∷ rest) e = let l = length-append slot.fixed (b ∷ rest) in let m = ap length e in omega arith

module _ (F : Format) where
  -- a slot of the layout whose fixed text alone is no value; 0 names none
  unfoldable pub is_field : ℕ → Bool
  is_field s = eqb s 0 || (has (slots_of F.tree) s && not (eqb (value_number (F.slot_of s) (F.slot_of s).fixed) 0))

  module _ (tests : all_below (suc F.fields) is_field ≡ true)
      (beyond : (s : ℕ) (v : List ℕ) → (F.beyond s ≡ 0 → ⊥) → value_number (F.slot_of s) v ≡ 0 → front_of F s < length v) where
    tested : (s : ℕ) → is_between 1 F.fields s ≡ true
        → (has (slots_of F.tree) s && not (eqb (value_number (F.slot_of s) (F.slot_of s).fixed) 0)) ≡ true
    unfolding is_between is_field
    tested s n = go (eqb s 0) refl (all-at (suc F.fields) is_field tests s (let high = leb-true s F.fields (and_right (leb 1 s) _ n) in omega arith))
      where
        low : 1 ≤ s
        low = leb-true 1 s (and_left (leb 1 s) _ n)

        go : (b : Bool) → eqb s 0 ≡ b → (b || (has (slots_of F.tree) s && not (eqb (value_number (F.slot_of s) (F.slot_of s).fixed) 0))) ≡ true
            → (has (slots_of F.tree) s && not (eqb (value_number (F.slot_of s) (F.slot_of s).fixed) 0)) ≡ true
        go true e h = let z = eqb-true s 0 e in let l = low in absurd (omega arith)
        go false e h = h

    some : (s : ℕ) (v : List ℕ) → is_between 1 F.fields s ≡ true → value_number (F.slot_of s) v ≡ 0 → front_of F s < length v
    unfolding front_of
    some s v n h = go (eqb (F.beyond s) 0) refl
      where
        alone : value_number (F.slot_of s) (F.slot_of s).fixed ≡ 0 → ⊥
        alone = eqb-false _ 0 (not-true _ (and_right (has (slots_of F.tree) s) _ (tested s n)))

        plainly : F.beyond s ≡ 0 → front_of F s < length v
        plainly z = let l = behind-fixed (F.slot_of s) v alone h in omega arith

        go : (b : Bool) → eqb (F.beyond s) 0 ≡ b → front_of F s < length v
        go true e = plainly (eqb-true _ 0 e)
        go false e = beyond s v (eqb-false _ 0 e) h

    pub fields : Fields F
    fields = record { are-slots = λ s n. and_left _ _ (tested s n); are-some = some }
