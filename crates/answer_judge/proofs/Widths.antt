-- A text or remark of a record by its slot is what the code judges: where the slot may be lacking and takes so many bytes of a class, it is
-- absent or has that width.
-- Assumes nothing.
use Prim.Native.Nat.{ℕ, ◌≤◌}
use mathlib.Core.Path.{◌≡◌, refl, sym, ◌∙◌}
use mathlib.Core.Bool.{Bool, true, false, ◌&&◌, ◌||◌}
use mathlib.Core.List.{List}
use native.Mathlib.Omega.{arith}
use lib.Dec.{leb, eqb}
use lib.ListN.{length, take}
use borrow.Author.Tests.{le-leb, leb-true, eqb-true, eqb-false, eq-eqb}
use Rattle.text.specs.Classes.{all_in, is_all, is_code}
use Rattle.text.specs.Texts.{fills, contents, in_form_of, in_form as text_form}
use Rattle.text.specs.declared.Class.{Class}
use Rattle.text.specs.declared.Class.TheVariants.{C, Printed}
use Rattle.text.specs.Texts.{Text}
use Rattle.text.proofs.Bools.{alike, or_case, or-one, or-two}
use Rattle.text.proofs.Laws.{and_left, and_right, and_both, fills-facts, length_front}
use Rattle.remark.specs.Remarks.{contents as remark_text, in_form as remark_form}
use Rattle.remark.specs.Remarks.{Remark}
use Rattle.forms.specs.Forms.{Slot, codes, characters, unless, form_number}
use Rattle.forms.proofs.Laws.{unless-good}
use Rattle.sheets.specs.Trees.{Tree}
use Rattle.format.specs.Format.{may_lack}
use Rattle.format.specs.Writable.{fitted, fitted_in}

-- ---- bytes in a room, of which the first are of a class

module _ (class : Class) (room : ℕ) (bytes : List ℕ) (len : ℕ) where
  abbrev form : ℕ → ℕ → Bool
  form least most = fills (all_in class (take len bytes)) room least most bytes len

  narrowed : (low high least most : ℕ) → form low high ≡ true → least ≤ len → len ≤ most → form least most ≡ true
  narrowed low high least most e l m =
      let f = fills-facts (all_in class (take len bytes)) room low high bytes len e in
      and_both (eq-eqb _ _ f.0)
      (and_both (le-leb _ _ f.1) (and_both (le-leb _ _ l) (and_both (le-leb _ _ m) (and_both {a = all_in class (take len bytes)} f.4 f.5))))

  wide : (least most : ℕ) → form least most ≡ true → is_all class least most (take len bytes) ≡ true
  wide least most e =
      let f = fills-facts (all_in class (take len bytes)) room least most bytes len e in
      rw (length_front (all_in class (take len bytes)) room least most bytes len e, le-leb _ _ f.2, le-leb _ _ f.3, f.4)

  by_width : (least most : ℕ) → form 0 room ≡ true → is_all class least most (take len bytes) ≡ true → form least most ≡ true
  by_width least most h e =
      let n = length_front (all_in class (take len bytes)) room 0 room bytes len h in
      let l = leb-true least (length (take len bytes)) (and_left _ _ e) in
      let m = leb-true (length (take len bytes)) most (and_left _ _ (and_right (leb least (length (take len bytes))) _ e)) in
      narrowed 0 room least most h (omega arith) (omega arith)

  widest : (least most : ℕ) → form least most ≡ true → form 0 room ≡ true
  widest least most e = narrowed least most 0 room e (omega arith) (fills-facts (all_in class (take len bytes)) room least most bytes len e).1

  -- in form, and of length 0 or with nothing wrong by the slot: absent, or of the slot's width
  absent-or : (least most n wrong : ℕ) → (form 0 room ≡ true → n ≡ len) → wrong ≡ unless (is_all class least most (take len bytes))
      → (form 0 room && (eqb n 0 || eqb wrong 0)) ≡ (form 0 0 || form least most)
  unfolding unless
  absent-or least most n wrong long is = alike _ _ there back
    where
      there : (form 0 room && (eqb n 0 || eqb wrong 0)) ≡ true → (form 0 0 || form least most) ≡ true
      there e =
          let h = and_left (form 0 room) _ e in
          or_case (eqb n 0) _ (and_right (form 0 room) _ e)
          (λ z. let k = long h in let o = eqb-true n 0 z in or-one _ _ (narrowed 0 room 0 0 h (omega arith) (omega arith)))
          (λ z. or-two (form 0 0) _ (by_width least most h (unless-good _ (sym is ∙ eqb-true _ _ z))))

      back : (form 0 0 || form least most) ≡ true → (form 0 room && (eqb n 0 || eqb wrong 0)) ≡ true
      back e =
          or_case (form 0 0) _ e
          (λ h. let w = widest 0 0 h in let k = long w in let f = (fills-facts (all_in class (take len bytes)) room 0 0 bytes len h).3 in and_both w (or-one _ _ (eq-eqb n 0 (omega arith))))
          (λ h. and_both (widest least most h) (or-two (eqb n 0) _ (eq-eqb wrong 0 (is ∙ rw (wide least most h)))))

  -- absent or of 1 to so many bytes is of 0 to so many
  up_to : (most : ℕ) → (form 0 0 || form 1 most) ≡ form 0 most
  up_to most = alike _ _ there back
    where
      there : (form 0 0 || form 1 most) ≡ true → form 0 most ≡ true
      there e =
          or_case (form 0 0) _ e
          (λ h. let f = (fills-facts (all_in class (take len bytes)) room 0 0 bytes len h).3 in narrowed 0 0 0 most h (omega arith) (omega arith))
          (λ h. narrowed 1 most 0 most h (omega arith) (fills-facts (all_in class (take len bytes)) room 1 most bytes len h).3)

      back : form 0 most ≡ true → (form 0 0 || form 1 most) ≡ true
      back e = go (eqb len 0) refl
        where
          go : (b : Bool) → eqb len 0 ≡ b → (form 0 0 || form 1 most) ≡ true
          go true z = let o = eqb-true len 0 z in or-one _ _ (narrowed 0 most 0 0 e (omega arith) (omega arith))
          go false z =
              let o = eqb-false len 0 z in
              or-two (form 0 0) _ (narrowed 0 most 1 most e (omega arith) (fills-facts (all_in class (take len bytes)) room 0 most bytes len e).3)

-- ---- by their slots

module _ (tree : Tree) (slot_of : ℕ → Slot) (slot : ℕ) (lacking : may_lack tree slot ≡ true) where
  pub fitted-or : (least most : ℕ) (x : Text) → (slot_of slot).form ≡ codes least most → fitted tree slot_of slot x ≡ (text_form 0 0 x || text_form least most x)
  unfolding fitted text_form contents form_number is_code
  fitted-or least most x is =
      let wrong : form_number (slot_of slot).form (contents x) ≡ unless (is_all C least most (contents x)) = rw is in
      rw lacking (absent-or C 20 x.bytes x.len least most x.len _ (λ h. refl) wrong)

  pub fitted-class : (class : Class) (most : ℕ) (x : Text) → (slot_of slot).form ≡ characters class 1 most
      → fitted_in tree slot_of slot (in_form_of class 0 20 x) (contents x) ≡ in_form_of class 0 most x
  unfolding fitted_in in_form_of contents form_number
  fitted-class class most x is =
      let wrong : form_number (slot_of slot).form (contents x) ≡ unless (is_all class 1 most (contents x)) = rw is in
      rw lacking
      (absent-or class 20 x.bytes x.len 1 most _ _ (length_front (all_in class (contents x)) 20 0 20 x.bytes x.len) wrong
      ∙ up_to class 20 x.bytes x.len most)

  pub fitted-remark : (most : ℕ) (r : Remark) → (slot_of slot).form ≡ characters Printed 1 most
      → fitted_in tree slot_of slot (remark_form 0 35 r) (remark_text r) ≡ remark_form 0 most r
  unfolding fitted_in in_form_of remark_text form_number
  fitted-remark most r is =
      let wrong : form_number (slot_of slot).form (remark_text r) ≡ unless (is_all Printed 1 most (remark_text r)) = rw is in
      rw lacking
      (absent-or Printed 35 r.bytes r.len 1 most _ _ (length_front (all_in Printed (remark_text r)) 35 0 35 r.bytes r.len) wrong
      ∙ up_to Printed 35 r.bytes r.len most)
