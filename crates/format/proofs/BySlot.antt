-- What is said of every slot of a message type, slot by slot: a list of statements by their numbers; and texts and code words of a record
-- beside the values of their slots.
-- Assumes nothing.
use Prim.Native.Nat.{ℕ, zero, suc, ◌+◌, ◌≤◌, ◌<◌}
use mathlib.Core.Path.{◌≡◌, refl, sym, ap, ◌∙◌}
use mathlib.Core.Bool.{Bool, true, false, ◌&&◌, ◌||◌, true≢false, and_assoc}
use mathlib.Core.List.{List, [], ◌∷◌}
use mathlib.Core.Logic.{◌⊎◌, inl, inr}
use native.Mathlib.Nat.{add-zero, zero-add, add-suc, suc-add, not-suc-le-zero, le_of_suc-le-suc}
use native.Mathlib.Omega.{arith}
use lib.Dec.{leb, eqb}
use lib.ListN.{length, take, drop, get_or}
use lib.Seq.{drop-drop}
use borrow.Author.Tests.{le-leb, leb-true, ltb-true, eqb-true, eqb-false, eq-eqb}
use Rattle.text.specs.Classes.{all_in, is_code}
use Rattle.text.specs.Texts.{contents, text_of, in_form as text_form}
use Rattle.text.specs.Texts.{Text}
use Rattle.text.specs.declared.Class.TheVariants.{C}
use Rattle.text.proofs.Bools.{alike, or_case, or-one, or-two}
use Rattle.text.proofs.Codes.{code-text, text-code}
use Rattle.text.proofs.Laws.{and_left, and_right, and_both, text-is, contents-of, in-form-of, in-form-facts, length-contents}
use Rattle.forms.specs.Forms.{Slot, codes, word_at, is_word, unless, form_number}
use Rattle.forms.proofs.Laws.{unless-good, word-at}
use Rattle.sheets.specs.Trees.{Tree}
use Rattle.format.specs.Format.{may_lack}
use Rattle.format.specs.Writable.{fitted, fitted_in, hold}

-- ---- statements by their numbers

-- a statement of each of n numbers from k on
abbrev pub Each : (ℕ → Type 0) → ℕ → ℕ → Type 0
Each P k zero = Unit
Each P k (suc n) = P k × Each P (suc k) n

-- one statement, and those of the numbers behind it
infixr 20 ◌⨾◌
pub ◌⨾◌ : {A B : Type 0} → A → B → A × B
a ⨾ b = (a, b)

from_each : (P : ℕ → Type 0) (k n i : ℕ) → Each P k n → i < n → P (k + i)
from_each P k zero i all h = absurd (not-suc-le-zero h)
from_each P k (suc n) zero all h = rw add-zero all.0
from_each P k (suc n) (suc i) all h = rw (add-suc, ← suc-add) (from_each P (suc k) n i all.1 (le_of_suc-le-suc h))

pub each_at : (P : ℕ → Type 0) (n : ℕ) → Each P 0 n → (i : ℕ) → i < n → P i
each_at P n all i h = rw zero-add at (from_each P 0 n i all h)

-- tests that hold together hold each, and those that hold each hold together
pub hold_at : (bs : List Bool) → hold bs ≡ true → (i : ℕ) → get_or bs i true ≡ true
unfolding hold
hold_at [] e i = refl
hold_at (b ∷ bs) e zero = and_left _ _ e
hold_at (b ∷ bs) e (suc i) = hold_at bs (and_right b _ e) i

pub hold-all : (bs : List Bool) → ((i : ℕ) → i < length bs → get_or bs i true ≡ true) → hold bs ≡ true
unfolding hold
hold-all [] h = refl
hold-all (b ∷ bs) h = and_both (h 0 (omega arith)) (hold-all bs (λ i l. h (suc i) (omega arith)))

-- a stretch of their list at a time
pub hold-split : (k : ℕ) (bs : List Bool) → hold bs ≡ (hold (take k bs) && hold (drop k bs))
unfolding hold
hold-split zero bs = refl
hold-split (suc k) [] = refl
hold-split (suc k) (b ∷ bs) = rw (hold-split k bs) (sym (and_assoc b (hold (take k bs)) (hold (drop k bs))))

pub hold-from : (k j : ℕ) (bs : List Bool) → hold (drop j bs) ≡ (hold (take k (drop j bs)) && hold (drop (j + k) bs))
hold-from k j bs = hold-split k (drop j bs) ∙ ap (λ (l : List Bool). hold (take k (drop j bs)) && hold l) (drop-drop k j bs)

-- ---- texts

-- what a text in form is by width, it is by every width that has room for its length
narrowed : (least most low high : ℕ) (x : Text) → text_form low high x ≡ true → least ≤ x.len → x.len ≤ most → text_form least most x ≡ true
unfolding text_form
narrowed least most low high x e l m =
    let f = in-form-facts low high x e in
    and_both (eq-eqb _ _ f.0)
    (and_both (le-leb _ _ f.1) (and_both (le-leb _ _ l) (and_both (le-leb _ _ m) (and_both {a = all_in C (contents x)} f.4 f.5))))

pub widest : (least most : ℕ) (x : Text) → text_form least most x ≡ true → text_form 0 20 x ≡ true
widest least most x e = narrowed 0 20 least most x e (omega arith) (in-form-facts least most x e).1

pub no-contents : (x : Text) → x.len ≡ 0 → contents x ≡ []
unfolding contents
no-contents x e = rw e

-- ---- a text by its slot

module _ (tree : Tree) (slot_of : ℕ → Slot) where
  pub fitted-form : (slot : ℕ) (x : Text) → fitted tree slot_of slot x ≡ true → text_form 0 20 x ≡ true
  unfolding fitted
  fitted-form slot x e = and_left _ _ e

  -- where the slot takes so many c this is the width of the text, or of an optional one that it is absent or of that width
  module _ (slot least most : ℕ) (x : Text) (is : (slot_of slot).form ≡ codes least most) where
    coded : is_code least most (contents x) ≡ true → form_number (slot_of slot).form (contents x) ≡ 0
    unfolding form_number unless
    coded e = rw (is, e)

    uncoded : text_form 0 20 x ≡ true → form_number (slot_of slot).form (contents x) ≡ 0 → text_form least most x ≡ true
    unfolding form_number is_code
    uncoded h z =
        let e = unless-good (is_code least most (contents x)) (rw is at z) in
        let n = length-contents 0 20 x h in
        let l = leb-true least (length (contents x)) (and_left _ _ e) in
        let m = leb-true (length (contents x)) most (and_left _ _ (and_right (leb least (length (contents x))) _ e)) in
        narrowed least most 0 20 x h (omega arith) (omega arith)

    pub fitted-must : may_lack tree slot ≡ false → fitted tree slot_of slot x ≡ text_form least most x
    unfolding fitted
    fitted-must o = alike _ _ there back
      where
        there : fitted tree slot_of slot x ≡ true → text_form least most x ≡ true
        there e =
            let h = and_left (text_form 0 20 x) _ e in
            or_case (may_lack tree slot && eqb x.len 0) _ (and_right (text_form 0 20 x) _ e)
            (λ a. absurd (true≢false (sym (and_left (may_lack tree slot) _ a) ∙ o))) (λ z. uncoded h (eqb-true _ _ z))

        back : text_form least most x ≡ true → fitted tree slot_of slot x ≡ true
        back e =
            let z = eq-eqb (form_number (slot_of slot).form (contents x)) 0 (coded (text-code least most x e)) in
            and_both (widest least most x e) (or-two (may_lack tree slot && eqb x.len 0) _ z)

  pub fitted-may : (slot most : ℕ) (x : Text) → (slot_of slot).form ≡ codes 1 most → may_lack tree slot ≡ true → fitted tree slot_of slot x ≡ text_form 0 most x
  unfolding fitted
  fitted-may slot most x is o = alike _ _ there back
    where
      there : fitted tree slot_of slot x ≡ true → text_form 0 most x ≡ true
      there e =
          let h = and_left (text_form 0 20 x) _ e in
          or_case (may_lack tree slot && eqb x.len 0) _ (and_right (text_form 0 20 x) _ e)
          (λ a. let z = eqb-true x.len 0 (and_right (may_lack tree slot) _ a) in narrowed 0 most 0 20 x h (omega arith) (omega arith))
          (λ z. let k = uncoded slot 1 most x is h (eqb-true _ _ z) in narrowed 0 most 1 most x k (omega arith) (in-form-facts 1 most x k).3)

      back : text_form 0 most x ≡ true → fitted tree slot_of slot x ≡ true
      back e = and_both (widest 0 most x e) (go (eqb x.len 0) refl)
        where
          go : (b : Bool) → eqb x.len 0 ≡ b → ((may_lack tree slot && b) || eqb (form_number (slot_of slot).form (contents x)) 0) ≡ true
          go true z = rw o
          go false z =
              let n = eqb-false x.len 0 z in
              let k = narrowed 1 most 0 most x e (omega arith) (in-form-facts 0 most x e).3 in
              or-two (may_lack tree slot && false) _ (eq-eqb (form_number (slot_of slot).form (contents x)) 0 (coded slot 1 most x is (text-code 1 most x k)))

  -- a value that the slot takes is held as a text by its slot, and that text is written as the value
  pub fitted-text : (slot least most : ℕ) (v : List ℕ) → (slot_of slot).form ≡ codes least most → leb most 20 ≡ true
      → ((v ≡ []) × (may_lack tree slot ≡ true)) ⊎ (form_number (slot_of slot).form v ≡ 0)
      → (fitted tree slot_of slot (text_of v) ≡ true) × (contents (text_of v) ≡ v)
  unfolding fitted form_number is_code all_in
  fitted-text slot least most v is l (inl n) =
      let short : length v ≤ 20 = rw n.0 (omega arith) in
      let c = contents-of v short in
      let z : (text_of v).len ≡ 0 = ap (λ (x : Text). x.len) (text-is v short) ∙ ap length n.0 in
      (and_both (in-form-of v short 0 20 ∙ ap (is_code 0 20) n.0) (or-one _ _ (and_both n.1 (eq-eqb _ _ z))), c)
  fitted-text slot least most v is l (inr z) =
      let e = unless-good (is_code least most v) (rw is at z) in
      let t = code-text least most v (leb-true most 20 l) e in
      (and_both (widest least most (text_of v) t.0) (or-two (may_lack tree slot && eqb (text_of v).len 0) _ (eq-eqb _ _ (ap (form_number (slot_of slot).form) t.1 ∙ z))), t.1)

  -- so it is of a text of another class, or in another room: it is in form, and its contents are the value
  pub fitted-held : (slot : ℕ) (form : Bool) (w v : List ℕ) → form ≡ true → w ≡ v → ((v ≡ []) × (may_lack tree slot ≡ true)) ⊎ (form_number (slot_of slot).form v ≡ 0)
      → fitted_in tree slot_of slot form w ≡ true
  unfolding fitted_in
  fitted-held slot form w v f e (inl n) = and_both f (or-one _ _ (and_both n.1 (eq-eqb _ _ (ap length (e ∙ n.0)))))
  fitted-held slot form w v f e (inr z) = and_both f (or-two (may_lack tree slot && eqb (length w) 0) _ (eq-eqb _ _ (ap (form_number (slot_of slot).form) e ∙ z)))

-- ---- code words

-- what a word stands for is written as the word, where each of its list is
pub word_back : {T : Type 0} (ws : List (List ℕ)) (all : List T) (first : T) (spell : T → List ℕ)
    → Each (λ n. spell (get_or all n first) ≡ get_or ws n []) 0 (length ws)
    → (v : List ℕ) → is_word ws v ≡ true → spell (get_or all (word_at ws v) first) ≡ v
unfolding is_word
word_back ws all first spell each v e =
    each_at (λ n. spell (get_or all n first) ≡ get_or ws n []) (length ws) each (word_at ws v) (ltb-true _ _ e) ∙ word-at ws v e
