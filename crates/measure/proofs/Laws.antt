-- The mathematics of the crate's functions, over plain lists and numbers: the front of a text by each form, and a value behind its
-- fixed text.
-- Assumes nothing.
use Prim.Native.Nat.{ℕ, zero, suc, ◌+◌, ◌-◌, ◌*◌, ◌/◌, ◌%◌, ◌≤◌, ◌<◌}
use mathlib.Core.Path.{◌≡◌, refl, sym, ap, ◌∙◌}
use mathlib.Core.Bool.{Bool, true, false, cond}
use mathlib.Core.List.{List, [], ◌∷◌, ◌++◌}
use native.Mathlib.Numerals.{add-one}
use native.Mathlib.Omega.{arith}
use lib.Dec.{ltb}
use lib.ListN.{length, take, drop, get_or, length-drop}
use lib.Seq.{length-take-le, take-suc, take-add, take_at, drop_at, append_snoc}
use borrow.Author.Tests.{le-leb, lt-ltb, ltb-true}
use Rattle.std.proofs.Common.{Option, Some, None}
use Rattle.text.specs.Bytes.{begins, same}
use Rattle.text.specs.Classes.{in_class, all_in, is_code, printed, printed_class}
use Rattle.text.specs.declared.Class.{Class}
use Rattle.text.specs.declared.Class.TheVariants.{C, Digit}
use Rattle.text.proofs.Laws.{and_left, and_right, and_both, all_append, same_refl, begins-is, begins-length, begins-append}
use Rattle.text.proofs.Printed.{printed-append}
use Rattle.amount.specs.Amounts.{is_amount, amount_read}
use Rattle.amount.proofs.Laws.{fit-amount}
use Rattle.forms.specs.Forms.{Form, Slot, nothing, codes, characters, words, amount, date, moment, narrative, pool_narrative, word_at, is_word, unless, form_number, value_number}
use Rattle.forms.specs.Narrative.{is_narrative}
use Rattle.forms.specs.Slots.{words_in, form_of, slot_at}
use Rattle.forms.proofs.Parts.{line-from, fixed-part, form-is}
use Rattle.forms.proofs.Printing.{printed_form, form-printed}
use Rattle.measure.specs.Measure.{clean_form, clean_slot, FormMeasured, Measured, slot_in, FixedMeasured}

-- one byte more at the front
pub front-more : (k : Class) (s : List ℕ) (i : ℕ) → i < length s → all_in k (take i s) ≡ true → in_class k (get_or s i 0) ≡ true → all_in k (take (i + 1) s) ≡ true
unfolding all_in
front-more k s i h e b =
    rw (add-one, take-suc s i 0 h, all_append k (take i s) (get_or s i 0 ∷ [])) (and_both e (and_both b refl))

-- ---- the forms

-- what gets 0 in a form is printable where the form is clean
told : (f : Form) (s : List ℕ) (n : ℕ) → (clean_form f ≡ true → printed_form f ≡ true) → n ≤ length s → form_number f (take n s) ≡ 0 → FormMeasured f s (Some n)
unfolding FormMeasured
told f s n p h e = (h, e, λ c. form-printed f (take n s) (p c) e)

pub nothing-told : (s : List ℕ) → FormMeasured nothing s (Some 0)
unfolding form_number unless printed_form
nothing-told s = told nothing s 0 (λ c. refl) (omega arith) refl

pub characters-told : (k : Class) (least most : ℕ) (s : List ℕ) (n : ℕ) → n ≤ length s → all_in k (take n s) ≡ true → least ≤ n → n ≤ most
    → FormMeasured (characters k least most) s (Some n)
unfolding form_number unless clean_form printed_form
characters-told k least most s n h e l m =
    told (characters k least most) s n (λ c. c) h (rw (length-take-le n s h, le-leb least n l, le-leb n most m, e))

pub code-told : (least most : ℕ) (s : List ℕ) (w : Option ℕ) → FormMeasured (characters C least most) s w → FormMeasured (codes least most) s w
unfolding FormMeasured form_number clean_form printed_class is_code
code-told least most s (Some n) m = m
code-told least most s None m = m

-- a word that stands among some words is one of them
held : (k : ℕ) (ws us : List (List ℕ)) (w : List ℕ) → drop k ws ≡ w ∷ us → is_word ws w ≡ true
unfolding is_word word_at
held zero ws us w e = rw (e, same_refl w) (lt-ltb 0 (suc (length us)) (omega arith))
held (suc k) [] us w e = let z : ◌≡◌ {A = ℕ} 0 1 = cc in absurd (omega arith)
held (suc k) (x ∷ ws) us w e = go (held k ws us w e) (same x w)
  where
    go : ltb (word_at ws w) (length ws) ≡ true → (b : Bool) → ltb (cond b 0 (suc (word_at ws w))) (suc (length ws)) ≡ true
    go ih true = lt-ltb 0 (suc (length ws)) (omega arith)
    go ih false = let h : word_at ws w < length ws = ltb-true (word_at ws w) (length ws) ih in lt-ltb (suc (word_at ws w)) (suc (length ws)) (omega arith)

pub word-told : (t : List ℕ) (first count k : ℕ) (w s : List ℕ) → k < count → w ≡ (slot_at t (first + k)).fixed → begins w s ≡ true
    → FormMeasured (words (words_in t first count)) s (Some (length w))
unfolding form_number unless clean_form printed_form
word-told t first count k w s h f b =
    let e : take (length w) s ≡ w = ap (take (length w)) (begins-is w s b) ∙ take_at w _ (length w) refl in
    told (words (words_in t first count)) s (length w) (λ c. c) (begins-length w s b) (rw (e, held k (words_in t first count) _ w (line-from t first count k h w f)))

module _ (s : List ℕ) (whole tail : ℕ) (comma : get_or s whole 0 ≡ 44) (h : whole < length s) where
  amount-parts : take (whole + 1 + tail) s ≡ take whole s ++ 44 ∷ take tail (drop (whole + 1) s)
  amount-parts =
      take-add (whole + 1) tail s
      ∙ rw (add-one whole, take-suc s whole 0 h, comma) (append_snoc (take whole s) 44 (take tail (drop (suc whole) s)))

  pub amount-told : (r : List ℕ) → r ≡ drop (whole + 1) s → 1 ≤ whole → whole + tail ≤ 14 → all_in Digit (take whole s) ≡ true
      → tail ≤ length r → all_in Digit (take tail r) ≡ true → FormMeasured amount s (Some (whole + 1 + tail))
  unfolding form_number amount_read printed_form
  amount-told r e some short wholes t rests =
      let d : length r ≡ length s - (whole + 1) = ap length e ∙ length-drop (whole + 1) s in
      let w : length (take whole s) ≡ whole = length-take-le whole s (omega arith) in
      let f : length (take tail r) ≡ tail = length-take-le tail r t in
      let is : is_amount (take whole s ++ 44 ∷ take tail r) ≡ true =
      fit-amount (take whole s) (take tail r) (record { some = omega arith; short = omega arith; wholes = wholes; rests = rests })
      in told amount s (whole + 1 + tail) (λ c. refl) (omega arith) (rw (amount-parts, ← e, is))

-- dates, moments and narratives are judged as they stand
pub date-told : (s : List ℕ) (n : ℕ) → n ≤ length s → form_number date (take n s) ≡ 0 → FormMeasured date s (Some n)
unfolding printed_form
date-told s n = told date s n (λ c. refl)

pub moment-told : (s : List ℕ) (n : ℕ) → n ≤ length s → form_number moment (take n s) ≡ 0 → FormMeasured moment s (Some n)
unfolding printed_form
moment-told s n = told moment s n (λ c. refl)

pub narrative-told : (s : List ℕ) (n : ℕ) → n ≤ length s → is_narrative (take n s) ≡ true → FormMeasured narrative s (Some n)
unfolding form_number unless printed_form
narrative-told s n h e = told narrative s n (λ c. refl) h (rw e)

pub pool-told : (s : List ℕ) (n : ℕ) → n ≤ length s → form_number pool_narrative (take n s) ≡ 0 → FormMeasured pool_narrative s (Some n)
unfolding printed_form
pool-told s n = told pool_narrative s n (λ c. refl)

-- ---- a value

-- the fixed text of a slot and a part of its form behind it
value-told : (slot : Slot) (s : List ℕ) (len n : ℕ) → length slot.fixed ≡ len → begins slot.fixed s ≡ true
    → FormMeasured slot.form (drop len s) (Some n) → Measured slot s (Some (len + n))
unfolding FormMeasured Measured value_number clean_slot
value-told slot s len n l b m =
    let f : List ℕ = slot.fixed in
    let u : List ℕ = take n (drop len s) in
    let a : take len s ≡ f = ap (take len) (begins-is f s b) ∙ take_at f _ len l in
    let t : take (len + n) s ≡ f ++ u = take-add len n s ∙ ap (λ (x : List ℕ). x ++ u) a in
    let g = begins-length f s b in
    let d = length-drop len s in (
      let i = m.0 in omega arith,
      rw (t, begins-append f u, drop_at f u (length f) refl) m.1,
      λ c. rw t (printed-append f u (and_left _ _ c) (m.2 (and_right (printed f) _ c))),
    )

-- the same by a line's bytes, where its fixed text was told
module _ (t s v : List ℕ) (len : ℕ) (l : length s ≡ 20) (f : FixedMeasured s v (Some len)) where
  told-len : (len ≡ get_or s 3 0) × (len ≤ 16) × (begins (take len (drop 4 s)) v ≡ true)
  unfolding FixedMeasured
  told-len = f

  fixed-is : take len (drop 4 s) ≡ (slot_in t s).fixed
  unfolding slot_in
  fixed-is =
      let (i, h, b) = told-len in
      let e : len ≡ get_or s 3 0 % 17 = omega arith in
      ap (λ (n : ℕ). take n (drop 4 s)) e

  fixed-long : length (slot_in t s).fixed ≡ len
  fixed-long =
      let (i, h, b) = told-len in
      let d = length-drop 4 s in
      sym (ap length fixed-is) ∙ length-take-le len (drop 4 s) (omega arith)

  fixed-begins : begins (slot_in t s).fixed v ≡ true
  fixed-begins = sym (ap (λ (x : List ℕ). begins x v) fixed-is) ∙ told-len.2

  pub line-within : len ≤ length v
  line-within = let e = fixed-long in let w = begins-length (slot_in t s).fixed v fixed-begins in omega arith

  pub line-told : (n : ℕ) (r : List ℕ) → r ≡ drop len v
      → FormMeasured (form_of t (get_or s 0 0) (get_or s 1 0) (get_or s 2 0)) r (Some n) → Measured (slot_in t s) v (Some (len + n))
  unfolding slot_in
  line-told n r e m = value-told (slot_in t s) v len n fixed-long fixed-begins (rw e at m)

pub told-within : (slot : Slot) (s : List ℕ) (n : ℕ) → Measured slot s (Some n) → n ≤ length s
unfolding Measured
told-within slot s n m = m.0

-- the slot that a line says is the slot of that line
pub slot_is : (t : List ℕ) (slot : ℕ) → slot * 20 + 20 ≤ length t → (s : List ℕ) → s ≡ take (slot * 20 + 20 - slot * 20) (drop (slot * 20) t) → slot_in t s ≡ slot_at t slot
unfolding slot_in
slot_is t slot h s e =
    let q : slot < length t / 20 = omega arith in
    let n : 4 + get_or s 3 0 % 17 - 4 ≡ get_or s 3 0 % 17 = omega arith in
    let f : take (get_or s 3 0 % 17) (drop 4 s) ≡ (slot_at t slot).fixed = rw n at (fixed-part t slot q s e) in
    let g = form-is t slot q s e in
    rw (f, g)

pub line-long : (t : List ℕ) (slot : ℕ) → slot * 20 + 20 ≤ length t → length (take (slot * 20 + 20 - slot * 20) (drop (slot * 20) t)) ≡ 20
line-long t slot h =
    let w : slot * 20 + 20 - slot * 20 ≡ 20 = omega arith in
    let d = length-drop (slot * 20) t in
    rw w (length-take-le 20 (drop (slot * 20) t) (omega arith))
