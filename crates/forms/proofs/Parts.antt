-- The mathematics of the crate's functions, over plain lists and numbers: each turn of the search for a word, the parts of the
-- narratives, and the lines of a slot's bytes.
-- Assumes nothing.
use Prim.Native.Nat.{ℕ, zero, suc, ◌+◌, ◌-◌, ◌*◌, ◌/◌, ◌%◌, ◌≤◌, ◌<◌}
use mathlib.Core.Path.{◌≡◌, refl, sym, ap, ◌∙◌}
use mathlib.Core.Bool.{true, false}
use mathlib.Core.List.{List, [], ◌∷◌}
use native.Mathlib.Nat.{add-zero, add-suc, suc-add, le_of_lt, not-suc-le-zero, le_of_suc-le-suc}
use native.Mathlib.Numerals.{add-one}
use native.Mathlib.Omega.{arith}
use lib.Dec.{ltb}
use lib.ListN.{length, take, drop, get_or, length-take, length-drop, drop_of_length-le, get_or-eq_default}
use lib.Seq.{get_or-drop, take_all}
use borrow.Author.Tests.{le-leb, lt-leb, le-ltb, lt-ltb}
use Rattle.text.specs.Bytes.{begins, same}
use Rattle.text.specs.Classes.{is_all}
use Rattle.text.specs.declared.Class.{Class}
use Rattle.text.proofs.Laws.{parts_from, length-parts, rest_of}
use Rattle.forms.specs.Forms.{Form, Slot, characters, words, other, word_at, is_word, unless, form_number, value_number}
use Rattle.forms.specs.Narrative.{services, service_in, period_in}
use Rattle.forms.specs.Slots.{words_of, reaches, line_in, text_in, words_in, form_of, form_in, slot_at}

-- ---- the search for a word

-- the words passed, and the place among the rest
module _ (ws : List (List ℕ)) (v : List ℕ) (i : ℕ) (inv : word_at ws v ≡ i + word_at (drop i ws) v) where
  module _ (w : List ℕ) (next : drop i ws ≡ w ∷ drop (i + 1) ws) where
    pub word-here : same w v ≡ true → i ≡ word_at ws v
    unfolding word_at
    word-here e = sym (inv ∙ rw (next, e) (add-zero i))

    pub word-further : same w v ≡ false → word_at ws v ≡ i + 1 + word_at (drop (i + 1) ws) v
    unfolding word_at
    word-further e = inv ∙ rw (next, e) (omega arith)

  pub word_none : length ws ≤ i → i ≡ word_at ws v
  unfolding word_at
  word_none h = sym (inv ∙ rw (drop_of_length-le ws h) (add-zero i))

-- the next of some words of four letters, which the code's part ends at its start and four more; and their number
pub four-from : (t : List ℕ) (i : ℕ) → i < length t / 4
    → drop i (words_of t) ≡ take (i * 4 + 4 - i * 4) (drop (i * 4) t) ∷ drop (i + 1) (words_of t)
unfolding words_of
four-from t i h = let e : i * 4 + 4 - i * 4 ≡ 4 = omega arith in rw e (parts_from 4 (length t / 4) i t h)

pub fours : (t : List ℕ) → length (words_of t) ≡ length t / 4
unfolding words_of
fours t = length-parts 4 (length t / 4) t

-- the next of the words of some lines, and their number
next-line : (t : List ℕ) (first count k : ℕ) → k < count → drop k (words_in t first count) ≡ text_in t (first + k) ∷ drop (k + 1) (words_in t first count)
unfolding words_in
next-line t first zero k h = absurd (not-suc-le-zero h)
next-line t first (suc count) zero h = rw add-zero
next-line t first (suc count) (suc k) h = next-line t (suc first) count k (le_of_suc-le-suc h) ∙ simp (suc-add, add-suc, add-one)

pub line-from : (t : List ℕ) (first count k : ℕ) → k < count → (w : List ℕ) → w ≡ (slot_at t (first + k)).fixed
    → drop k (words_in t first count) ≡ w ∷ drop (k + 1) (words_in t first count)
unfolding slot_at
line-from t first count k h w e = rw e (next-line t first count k h)

pub word-lines : (t : List ℕ) (first count : ℕ) → length (words_in t first count) ≡ count
unfolding words_in
word-lines t first zero = refl
word-lines t first (suc count) = ap suc (word-lines t (suc first) count)

-- ---- the parts of the narratives

pub none_left : (k : ℕ) (s : List ℕ) → length s < k → [] ≡ drop k s
none_left k s h = sym (drop_of_length-le s (le_of_lt h))

-- a word that is cut short by the end of the value is all that is left
pub short-word : (v w : List ℕ) → w ≡ drop 5 v → length w < 4 → w ≡ service_in v
unfolding service_in
short-word v w e h = sym (ap (take 4) (sym e) ∙ take_all 4 w (omega arith))

pub whole_word : (v w : List ℕ) → w ≡ drop 5 v → take 4 w ≡ service_in v
unfolding service_in
whole_word v w e = rw e

pub period-at : (v : List ℕ) → get_or v 14 0 ≡ period_in v
unfolding period_in
period-at v = rw get_or-drop

pub no-period : (v : List ℕ) → length v < 15 → 0 ≡ period_in v
no-period v h = sym (get_or-eq_default v 0 (omega arith)) ∙ period-at v

module _ (v : List ℕ) (k : ℕ) (e : k ≡ word_at services (service_in v)) where
  pub service-none : 3 ≤ k → is_word services (service_in v) ≡ false
  unfolding is_word
  service-none h = rw (← e) (le-ltb k 3 h)

  pub service-one : k < 3 → is_word services (service_in v) ≡ true
  unfolding is_word
  service-one h = rw (← e) (lt-ltb k 3 h)

-- ---- the forms by their numbers

-- a value is a word where its place is below their number
pub words-number : (t v : List ℕ) (first count k n : ℕ) → k ≡ word_at (words_in t first count) v → n ≡ count
    → unless (ltb k n) ≡ form_number (words (words_in t first count)) v
unfolding form_number is_word
words-number t v first count k n h e = rw (h, e, word-lines)

-- so many bytes of a class, where the code's numbers are the slot's
pub characters-number : (class : Class) (v : List ℕ) (least most a b : ℕ) → a ≡ least → b ≡ most
    → unless (is_all class a b v) ≡ form_number (characters class least most) v
unfolding form_number
characters-number class v least most a b e f = rw (e, f)

-- ---- the lines

module _ (t : List ℕ) (slot : ℕ) where
  pub slot-none : length t / 20 ≤ slot → slot_at t slot ≡ record { fixed = []; form = other }
  unfolding slot_at text_in form_in reaches
  slot-none h = rw (lt-leb (slot * 20 + 20) (length t) (omega arith))

  -- the code's part of them
  module _ (h : slot < length t / 20) (s : List ℕ) (is : s ≡ take (slot * 20 + 20 - slot * 20) (drop (slot * 20) t)) where
    line-is : s ≡ line_in t slot
    unfolding line_in
    line-is = let e : slot * 20 + 20 - slot * 20 ≡ 20 = omega arith in is ∙ ap (λ (k : ℕ). take k (drop (slot * 20) t)) e

    reached : reaches t slot ≡ true
    unfolding reaches
    reached = le-leb (slot * 20 + 20) (length t) (omega arith)

    pub line-length : length s ≡ 20
    unfolding line_in
    line-length = rw (line-is, length-take, length-drop) (omega arith)

    pub fixed-part : take (4 + get_or s 3 0 % 17 - 4) (drop 4 s) ≡ (slot_at t slot).fixed
    unfolding slot_at text_in
    fixed-part = let e : 4 + get_or s 3 0 % 17 - 4 ≡ get_or s 3 0 % 17 = omega arith in rw (reached, ← line-is, e)

    pub form-is : form_of t (get_or s 0 0) (get_or s 1 0) (get_or s 2 0) ≡ (slot_at t slot).form
    unfolding slot_at form_in
    form-is = rw (reached, ← line-is)

-- ---- the number of a value

module _ (slot : Slot) (v : List ℕ) where
  pub not-fixed : (f : List ℕ) → f ≡ slot.fixed → begins f v ≡ false → 10 ≡ value_number slot v
  unfolding value_number
  not-fixed f e b = rw (← e, b)

  pub after-fixed : begins slot.fixed v ≡ true → form_number slot.form (drop (length slot.fixed) v) ≡ value_number slot v
  unfolding value_number
  after-fixed e = rw e

-- the code's part of what follows the fixed text
pub judged : (slot : Slot) (v f : List ℕ) (form : Form) (r : ℕ) → f ≡ slot.fixed → begins f v ≡ true → form ≡ slot.form
    → r ≡ form_number form (take (length v - length f) (drop (length f) v)) → r ≡ value_number slot v
judged slot v f form r e b g h =
    h ∙ rw (rest_of (length f) (length v) v refl, e, g) (after-fixed slot v (sym (ap (λ (l : List ℕ). begins l v) e) ∙ b))

pub unjudged : (t : List ℕ) (i : ℕ) (v : List ℕ) → length t / 20 ≤ i → 0 ≡ value_number (slot_at t i) v
unfolding value_number form_number begins
unjudged t i v h = rw (slot-none t i h)
