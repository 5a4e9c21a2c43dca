-- The mathematics of the crate's functions, over plain lists and numbers: the bytes of a c, a sum one place further, and the nine bytes of a
-- record's text.
-- Assumes nothing.
use Prim.Native.Nat.{ℕ, zero, suc, ◌+◌, ◌≤◌, ◌<◌}
use mathlib.Core.Path.{◌≡◌, sym, ap, ◌∙◌}
use mathlib.Core.Bool.{true, ◌&&◌}
use mathlib.Core.List.{List, [], ◌∷◌}
use native.Mathlib.Numerals.{add-one}
use native.Mathlib.Nat.{not-suc-le-zero, le_of_suc-le-suc}
use native.Mathlib.Omega.{arith}
use lib.Dec.{leb}
use lib.ListN.{length, take, drop, get_or, drop_of_length-le}
use lib.Seq.{drop-cons}
use borrow.Author.Tests.{leb-true}
use Rattle.text.specs.Classes.{is_between, is_digit, is_upper, is_c, in_class, all_in, is_code}
use Rattle.text.specs.Texts.{contents, in_form}
use Rattle.text.specs.declared.Class.{Class}
use Rattle.text.specs.declared.Class.TheVariants.{C}
use Rattle.text.specs.Texts.{Text}
use Rattle.text.proofs.Bools.{or_case}
use Rattle.text.proofs.Codes.{code-all, text-code}
use Rattle.text.proofs.Laws.{and_left, and_right, in-form-facts}
use Rattle.security.specs.Security.{adds, sum_from}

-- ---- the value of a c

-- a byte of a c: it is a digit or a letter
pub record Kind (b : ℕ) : Type 0 where
  pub low : 48 ≤ b
  pub high : b ≤ 90
  pub between : 57 < b → 65 ≤ b

pub c_kind : (b : ℕ) → is_c b ≡ true → Kind b
unfolding is_c is_upper is_digit is_between
c_kind b e =
    or_case (leb 65 b && leb b 90) (leb 48 b && leb b 57) e
    (λ u. let l = leb-true 65 b (and_left _ _ u) in let h = leb-true b 90 (and_right (leb 65 b) _ u) in
    record { low = omega arith; high = h; between = λ f. l })
    (λ d. let l = leb-true 48 b (and_left _ _ d) in let h = leb-true b 57 (and_right (leb 48 b) _ d) in
    record { low = l; high = omega arith; between = λ f. let z : ⊥ = omega arith in absurd z })

-- ---- the characters of a security, one by one

pub all-at : (k : Class) (s : List ℕ) (i : ℕ) → all_in k s ≡ true → i < length s → in_class k (get_or s i 0) ≡ true
unfolding all_in
all-at k [] i e h = absurd (not-suc-le-zero h)
all-at k (b ∷ s) zero e h = and_left _ _ e
all-at k (b ∷ s) (suc i) e h = all-at k s i (and_right (in_class k b) _ e) (le_of_suc-le-suc h)

pub code_at : (least most : ℕ) (s : List ℕ) (i : ℕ) → is_code least most s ≡ true → i < length s → is_c (get_or s i 0) ≡ true
unfolding in_class
code_at least most s i e h = all-at C s i (code-all least most s e) h

pub code_least : (least most : ℕ) (s : List ℕ) → is_code least most s ≡ true → least ≤ length s
unfolding is_code
code_least least most s e = leb-true least (length s) (and_left _ _ e)

-- ---- a sum, with what was added up to a place and what is left

pub sum-all : (s : List ℕ) → 0 + sum_from (0 + 1) (drop 0 s) ≡ sum_from 1 s
sum-all s = omega arith

module _ (s : List ℕ) (sum i : ℕ) (inv : sum + sum_from (i + 1) (drop i s) ≡ sum_from 1 s) where
  pub sum_more : i < length s → sum + adds (i + 1) (get_or s i 0) + sum_from (i + 1 + 1) (drop (i + 1) s) ≡ sum_from 1 s
  unfolding sum_from
  sum_more h =
      let e : sum_from (i + 1) (drop i s) ≡ adds (i + 1) (get_or s i 0) + sum_from (i + 1 + 1) (drop (i + 1) s) = rw (add-one i, add-one (suc i), drop-cons s i 0 h) in
      omega (arith, inv, e)

  pub sum_done : length s ≤ i → sum ≡ sum_from 1 s
  unfolding sum_from
  sum_done h =
      let e : sum_from (i + 1) (drop i s) ≡ 0 = rw (drop_of_length-le s h) in
      omega (arith, inv, e)

-- ---- a record's text of nine c

pub nine_is : (t : Text) → in_form 9 9 t ≡ true → contents t ≡ take 9 t.bytes
unfolding contents
nine_is t e = let f = in-form-facts 9 9 t e in let n : t.len ≡ 9 = omega (arith, f.2, f.3) in ap (λ (k : ℕ). take k t.bytes) n

pub nine_code : (t : Text) → in_form 9 9 t ≡ true → is_code 9 9 (take 9 t.bytes) ≡ true
nine_code t e = sym (ap (is_code 9 9) (nine_is t e)) ∙ text-code 9 9 t e
