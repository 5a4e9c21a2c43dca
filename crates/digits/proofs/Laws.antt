-- What callers cite: digits and the number that they spell tell each other, at every width.
-- Assumes nothing.
use Prim.Native.Nat.{ℕ, zero, suc, ◌+◌, ◌-◌, ◌*◌, ◌/◌, ◌%◌, ◌^◌, ◌≤◌, ◌<◌}
use mathlib.Core.Path.{◌≡◌, refl, sym, ap, ◌∙◌}
use mathlib.Core.Bool.{Bool, true, false, ◌&&◌, cond}
use mathlib.Core.List.{List, [], ◌∷◌, ◌++◌, append_assoc, append-nil}
use native.Mathlib.Nat.{not-suc-le-zero, add-zero, zero-add, add-suc, add_assoc, mul_assoc, mul_comm, mul-one, zero-mul, add-mul, pow-zero, pow-suc, pow-succ', mod-lt, div-add-mod', div-lt_iff_lt-mul}
use native.Mathlib.Numerals.{add-one, one-add}
use native.Mathlib.Omega.{arith}
use lib.Arith.{digits_lt, digits_div, digits_mod}
use lib.Dec.{leb, eqb, lit<}
use lib.ListN.{length, get_or, replicate, length-append, replicate-append-replicate}
use borrow.Author.Tests.{leb-true, le-leb, eq-eqb, eqb-true}
use Rattle.std.proofs.Common.{Some, None}
use Rattle.text.specs.Classes.{all_in, in_class, is_digit, is_between}
use Rattle.text.specs.declared.Class.TheVariants.{Digit}
use Rattle.text.proofs.Laws.{and_left, and_right, and_both, all_append}
use Rattle.digits.specs.Numerals.{numeral_from, numeral, digits, digit_run, number_of, wide_number}

-- ---- one digit

pub digit_low : (b : ℕ) → in_class Digit b ≡ true → 48 ≤ b
unfolding in_class is_digit is_between
digit_low b e = leb-true 48 b (and_left _ _ e)

pub digit-high : (b : ℕ) → in_class Digit b ≡ true → b ≤ 57
unfolding in_class is_digit is_between
digit-high b e = leb-true b 57 (and_right (leb 48 b) _ e)

pub is_digit_lem : (b : ℕ) → 48 ≤ b → b ≤ 57 → in_class Digit b ≡ true
unfolding in_class is_digit is_between
is_digit_lem b h g = and_both (le-leb 48 b h) (le-leb b 57 g)

-- ---- powers of ten

pub pow-add : (a b : ℕ) → 10 ^ (a + b) ≡ 10 ^ a * 10 ^ b
pow-add a zero = rw (add-zero, pow-zero, mul-one)
pow-add a (suc b) = rw (add-suc, pow-suc, pow-suc, pow-add a b) (mul_assoc (10 ^ a) (10 ^ b) 10)

-- ---- the number that digits spell

from_is : (n : ℕ) (s : List ℕ) → numeral_from n s ≡ n * 10 ^ length s + numeral_from 0 s
unfolding numeral_from
from_is n [] = rw (pow-zero, mul-one, add-zero)
from_is n (b ∷ s) =
    from_is (n * 10 + (b - 48)) s
    ∙ rw (add-mul, add_assoc, mul_assoc, mul_comm 10 (10 ^ length s), ← pow-suc)
    (ap (λ (k : ℕ). n * 10 ^ suc (length s) + k) (sym (from_is (b - 48) s) ∙ ap (λ (k : ℕ). numeral_from k s) (sym (zero-add (b - 48)))))

pub numeral-append : (s t : List ℕ) → numeral (s ++ t) ≡ numeral s * 10 ^ length t + numeral t
unfolding numeral numeral_from
numeral-append s t = from-append 0 s ∙ from_is (numeral_from 0 s) t
  where
    from-append : (n : ℕ) (s : List ℕ) → numeral_from n (s ++ t) ≡ numeral_from (numeral_from n s) t
    from-append n [] = refl
    from-append n (b ∷ s) = from-append (n * 10 + (b - 48)) s

-- ---- the digits of a number

pub length_digits : (width n : ℕ) → length (digits width n) ≡ width
unfolding digits
length_digits zero n = refl
length_digits (suc width) n = rw (length-append, length_digits width (n / 10)) (add-one width)

pub all_digits : (width n : ℕ) → all_in Digit (digits width n) ≡ true
unfolding digits all_in
all_digits zero n = refl
all_digits (suc width) n = rw all_append (and_both (all_digits width (n / 10)) (and_both (is_digit_lem (48 + n % 10) (omega arith) (omega arith)) refl))

one-digit : (k : ℕ) → numeral ((48 + k) ∷ []) ≡ k
unfolding numeral numeral_from
one-digit k = omega arith

-- a number below 10 ^ width is spelled by its digits
pub numeral-digits : (width n : ℕ) → n < 10 ^ width → numeral (digits width n) ≡ n
unfolding digits numeral numeral_from
numeral-digits zero n h = let z : n < 1 = rw pow-zero at h in omega arith
numeral-digits (suc width) n h =
    let low : n / 10 < 10 ^ width = (div-lt_iff_lt-mul (lit< tt)).1 (rw pow-suc at h) in
    numeral-append (digits width (n / 10)) ((48 + n % 10) ∷ [])
    ∙ rw (numeral-digits width (n / 10) low, one-digit (n % 10)) (div-add-mod' n 10)

-- the digits of a number in two parts
pub digits-join : (w k q r : ℕ) → r < 10 ^ k → digits (w + k) (q * 10 ^ k + r) ≡ digits w q ++ digits k r
unfolding digits
digits-join w zero q r h =
    let z : r < 1 = rw pow-zero at h in
    let e : q * 1 + r ≡ q = omega arith in
    rw (pow-zero, e, add-zero, append-nil)
digits-join w (suc k) q r h =
    let up : q * 10 ^ suc k + r ≡ (q * 10 ^ k + r / 10) * 10 + r % 10 =
    rw (pow-suc, add-mul, ← mul_assoc, add_assoc, div-add-mod' r 10)
    in let low : r / 10 < 10 ^ k = (div-lt_iff_lt-mul (lit< tt)).1 (rw pow-suc at h)
    in let m : r % 10 < 10 = mod-lt r (lit< tt)
    in rw (up, add-suc w k, digits_div (q * 10 ^ k + r / 10) m, digits_mod (q * 10 ^ k + r / 10) m, digits-join w k q (r / 10) low) (append_assoc (digits w q) (digits k (r / 10)) ((48 + r % 10) ∷ []))

-- ---- a part that is all digits

numeral-cons : (b : ℕ) (s : List ℕ) → numeral (b ∷ s) ≡ (b - 48) * 10 ^ length s + numeral s
unfolding numeral numeral_from
numeral-cons b s = rw zero-add (from_is (b - 48) s)

-- so many digits spell a number below that power of ten
pub numeral-lt : (s : List ℕ) → all_in Digit s ≡ true → numeral s < 10 ^ length s
unfolding all_in numeral numeral_from
numeral-lt [] e = lit< tt
numeral-lt (b ∷ s) e =
    let low = digit_low b (and_left _ _ e) in
    let high = digit-high b (and_left _ _ e) in
    let q : b - 48 < 10 = omega arith in
    rw (numeral-cons b s, pow-succ') (digits_lt q (numeral-lt s (and_right (in_class Digit b) _ e)))

-- the digits of the number that a part spells are the part
pub digits-numeral : (s : List ℕ) → all_in Digit s ≡ true → digits (length s) (numeral s) ≡ s
unfolding all_in digits
digits-numeral [] e = refl
digits-numeral (b ∷ s) e =
    let low = digit_low b (and_left _ _ e) in
    let high = digit-high b (and_left _ _ e) in
    let first : 48 + (b - 48) % 10 ≡ b = omega arith in
    let rest = and_right (in_class Digit b) _ e in
    let l : ℕ = length s in
    ap (λ (k : ℕ). digits k (numeral (b ∷ s))) (sym (one-add l)) ∙ ap (digits (1 + l)) (numeral-cons b s)
    ∙ digits-join 1 l (b - 48) (numeral s) (numeral-lt s rest) ∙ rw (digits-numeral s rest, first)

zero-digits : (k : ℕ) → digits k 0 ≡ replicate {A = ℕ} k 48
unfolding digits
zero-digits zero = refl
zero-digits (suc k) = rw (zero-digits k, replicate-append-replicate {A = ℕ} k 1 48, add-one)

-- at a greater width, with noughts in front
pub digits_more : (width : ℕ) (s : List ℕ) → all_in Digit s ≡ true → length s ≤ width → digits width (numeral s) ≡ replicate {A = ℕ} (width - length s) 48 ++ s
digits_more width s e h =
    let k : ℕ = width - length s in
    let w : width ≡ k + length s = omega arith in
    let n : numeral s ≡ 0 * 10 ^ length s + numeral s = rw (zero-mul, zero-add) in
    ap (λ (x : ℕ). digits x (numeral s)) w ∙ ap (digits (k + length s)) n ∙ digits-join k (length s) 0 (numeral s) (numeral-lt s e)
    ∙ rw (zero-digits k, digits-numeral s e)

-- ---- the digits that a part begins with

pub run_length : (s : List ℕ) → length (digit_run s) ≤ length s
unfolding digit_run
run_length [] = omega arith
run_length (b ∷ s) = go (run_length s) (in_class Digit b)
  where
    go : length (digit_run s) ≤ length s → (t : Bool) → length (cond t (b ∷ digit_run s) []) ≤ suc (length s)
    go ih true = omega arith
    go ih false = omega arith

-- they are digits
pub run-digits : (s : List ℕ) → all_in Digit (digit_run s) ≡ true
unfolding digit_run all_in
run-digits [] = refl
run-digits (b ∷ s) = go (run-digits s) (in_class Digit b) refl
  where
    go : all_in Digit (digit_run s) ≡ true → (t : Bool) → in_class Digit b ≡ t → all_in Digit (cond t (b ∷ digit_run s) []) ≡ true
    go ih true e = and_both e ih
    go ih false e = refl

-- what stands behind them is none
pub run-next : (s : List ℕ) → length (digit_run s) < length s → in_class Digit (get_or s (length (digit_run s)) 0) ≡ false
unfolding digit_run
run-next [] h = absurd (not-suc-le-zero h)
run-next (b ∷ s) h = go (run-next s) (in_class Digit b) refl h
  where
    go : (length (digit_run s) < length s → in_class Digit (get_or s (length (digit_run s)) 0) ≡ false) → (t : Bool) → in_class Digit b ≡ t
        → length (cond t (b ∷ digit_run s) []) < suc (length s) → in_class Digit (get_or (b ∷ s) (length (cond t (b ∷ digit_run s) [])) 0) ≡ false
    go ih true e g = ih (omega arith)
    go ih false e g = e

-- digits alone are all in front
pub all-run : (s : List ℕ) → all_in Digit s ≡ true → digit_run s ≡ s
unfolding digit_run all_in
all-run [] e = refl
all-run (b ∷ s) e = rw (and_left (in_class Digit b) _ e) (ap (λ (l : List ℕ). b ∷ l) (all-run s (and_right (in_class Digit b) _ e)))

-- and where as many are in front as there are bytes, there is nothing else
pub run_is : (s : List ℕ) → length (digit_run s) ≡ length s → digit_run s ≡ s
unfolding digit_run
run_is [] e = refl
run_is (b ∷ s) e = go (in_class Digit b) (run_is s) e
  where
    go : (t : Bool) → (length (digit_run s) ≡ length s → digit_run s ≡ s) → length (cond t (b ∷ digit_run s) []) ≡ suc (length s) → cond t (b ∷ digit_run s) [] ≡ b ∷ s
    go true ih h = ap (λ (l : List ℕ). b ∷ l) (ih (omega arith))
    go false ih h = let z : ⊥ = omega arith in absurd z

pub run-all : (s : List ℕ) → length (digit_run s) ≡ length s → all_in Digit s ≡ true
run-all s e = sym (ap (all_in Digit) (run_is s e)) ∙ run-digits s

-- ---- a part of a fixed width, both ways: what dates and times rest on

pub fixed-digits : (width n : ℕ) → width ≤ 18 → n < 10 ^ width → wide_number width (digits width n) ≡ Some n
unfolding wide_number number_of
fixed-digits width n w h =
    let l = length_digits width n in
    rw (eq-eqb _ _ l, l, le-leb width 18 w, all_digits width n, numeral-digits width n h)

-- a part of that width and of digits alone is the digits of its number; any other part is none
pub fixed-is : (width : ℕ) (s : List ℕ) → width ≤ 18 → wide_number width s ≡ cond (eqb (length s) width && all_in Digit s) (Some (numeral s)) None
unfolding wide_number number_of
fixed-is width s w = go (eqb (length s) width) refl
  where
    go : (b : Bool) → eqb (length s) width ≡ b → cond b (cond (leb (length s) 18 && all_in Digit s) (Some (numeral s)) None) None ≡ cond (b && all_in Digit s) (Some (numeral s)) None
    go true e = let l : length s ≡ width = eqb-true _ _ e in rw (le-leb (length s) 18 (omega arith))
    go false e = refl

pub fixed_back : (width : ℕ) (s : List ℕ) (n : ℕ) → width ≤ 18 → wide_number width s ≡ Some n → digits width n ≡ s
fixed_back width s n w e = go (eqb (length s) width && all_in Digit s) refl (sym (fixed-is width s w) ∙ e)
  where
    go : (b : Bool) → (eqb (length s) width && all_in Digit s) ≡ b → cond b (Some (numeral s)) None ≡ Some n → digits width n ≡ s
    go true t h =
        let m : numeral s ≡ n = cc in
        let l : length s ≡ width = eqb-true _ _ (and_left _ _ t) in
        rw (← m, ← l) (digits-numeral s (and_right (eqb (length s) width) _ t))
    go false t h = cc

-- ---- what a number that was read, or was not, tells of the part

pub number_is : (s : List ℕ) (n : ℕ) → number_of s ≡ Some n → (all_in Digit s ≡ true) × (numeral s ≡ n)
unfolding number_of
number_is s n e = go (leb (length s) 18 && all_in Digit s) refl e
  where
    go : (b : Bool) → (leb (length s) 18 && all_in Digit s) ≡ b → cond b (Some (numeral s)) None ≡ Some n → (all_in Digit s ≡ true) × (numeral s ≡ n)
    go true t h = (and_right (leb (length s) 18) _ t, cc)
    go false t h = cc

pub number-not : (s : List ℕ) → length s ≤ 18 → number_of s ≡ None → all_in Digit s ≡ false
unfolding number_of
number-not s short e = go (all_in Digit s) (rw (le-leb (length s) 18 short) at e)
  where
    go : (b : Bool) → cond b (Some (numeral s)) None ≡ None → b ≡ false
    go true h = cc
    go false h = refl
