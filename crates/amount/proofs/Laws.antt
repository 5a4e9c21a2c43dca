-- What callers cite: an amount's text and its meaning tell each other, up to the tidying of the text.
-- Assumes nothing.
use Prim.Native.Nat.{ℕ, suc, ◌+◌, ◌-◌, ◌/◌, ◌%◌, ◌^◌, ◌≤◌, ◌<◌}
use mathlib.Core.Path.{◌≡◌, refl, sym, ap, ◌∙◌}
use mathlib.Core.Bool.{Bool, true, false, ◌&&◌, ◌||◌, not, or-true}
use mathlib.Core.List.{List, [], ◌∷◌, ◌++◌, append_assoc}
use mathlib.Core.Logic.{⊎_elim, ◌↔◌}
use native.Mathlib.Nat.{pow-le-pow_right, lt_of_lt_of_le, zero-add}
use native.Mathlib.Omega.{arith}
use lib.Arith.{digits_mod}
use lib.Dec.{leb, ltb, eqb, lit<}
use lib.ListN.{length, take, drop, replicate, length-append, length-take, length-drop, length-replicate, take-append-drop}
use lib.Seq.{take_at, drop_at, drop-append-le}
use borrow.Author.Tests.{leb-true, ltb-true, eqb-true, le-leb, lt-ltb, ne_eqb, eqb-false, not-true}
use Rattle.std.proofs.Common.{Some}
use Rattle.text.specs.Classes.{all_in, in_class}
use Rattle.text.specs.declared.Class.TheVariants.{Digit}
use Rattle.text.proofs.Laws.{and_left, and_right, and_both, all_append}
use Rattle.digits.specs.Numerals.{numeral, numeral_from, digits}
use Rattle.digits.proofs.Laws.{digit_low, digit-high, numeral-append, numeral-lt, numeral-digits, digits_more, length_digits, all_digits}
use Rattle.amount.specs.Amounts.{whole, decimals, is_amount, trimmed, shortened, tidy, meaning_of, meaning, amount_read, in_form, spread, amount_text}
use Rattle.amount.specs.declared.Amount.{Amount}
use Rattle.amount.proofs.Trims.{whole_of, decimals-of, split, trimmed-noughts, trimmed-length, trimmed-digits, trimmed-numeral, trimmed-some, Ends, ends_stay, shortened-ends, shortened-twice, shortened-length, shortened-digits}

-- the last digit of a number is its rest by ten
last-digit : (y : List ℕ) (b : ℕ) → in_class Digit b ≡ true → numeral (y ++ b ∷ []) % 10 ≡ b - 48
unfolding numeral numeral_from
last-digit y b e =
    let low = digit_low b e in
    let high = digit-high b e in
    let r : 0 + (b - 48) < 10 = omega arith in
    ap (λ (n : ℕ). n % 10) (numeral-append y (b ∷ [])) ∙ digits_mod (numeral y) r ∙ zero-add (b - 48)

-- ---- a whole part and decimals that make an amount

module _ (w f : List ℕ) (wholes : all_in Digit w ≡ true) where
  pub value_of : meaning (w ++ 44 ∷ f) ≡ meaning_of w f
  unfolding meaning
  value_of = rw (whole_of w f wholes, decimals-of w f wholes)

  pub tidy_of : tidy (w ++ 44 ∷ f) ≡ trimmed w ++ 44 ∷ shortened f
  unfolding tidy
  tidy_of = rw (whole_of w f wholes, decimals-of w f wholes)

pub record Fit (w f : List ℕ) : Type 0 where
  pub some : 1 ≤ length w
  pub short : length w + length f ≤ 14
  pub wholes : all_in Digit w ≡ true
  pub rests : all_in Digit f ≡ true

-- an amount's text is such parts with a comma between them, and is nothing else
module _ (s : List ℕ) (e : is_amount s ≡ true) where
  pub amount-comma : length (whole s) < length s
  unfolding is_amount
  amount-comma = ltb-true _ _ (and_left _ _ (and_right (leb (length s) 15) _ e))

  pub amount-split : s ≡ whole s ++ 44 ∷ decimals s
  amount-split = split s amount-comma

  pub amount-fit : Fit (whole s) (decimals s)
  unfolding is_amount
  amount-fit =
      let r1 = and_right (leb (length s) 15) _ e in
      let r2 = and_right (ltb (length (whole s)) (length s)) _ r1 in
      let r3 = and_right (leb 1 (length (whole s))) _ r2 in
      let l : length s ≡ length (whole s) + suc (length (decimals s)) = ap length amount-split ∙ length-append (whole s) (44 ∷ decimals s) in
      let n : length s ≤ 15 = leb-true _ _ (and_left _ _ e) in
      record {
        some = leb-true _ _ (and_left _ _ r2);
        short = omega arith;
        wholes = and_left _ _ r3;
        rests = and_right (all_in Digit (whole s)) _ r3;
      }

module _ (w f : List ℕ) (fit : Fit w f) where
  pub fit-amount : is_amount (w ++ 44 ∷ f) ≡ true
  unfolding is_amount
  fit-amount =
      let l : length (w ++ 44 ∷ f) ≡ length w + suc (length f) = length-append w (44 ∷ f) in
      let a : length w + suc (length f) ≤ 15 = let h = fit.short in omega arith in
      let b : length w < length w + suc (length f) = omega arith in
      rw (l, whole_of w f fit.wholes, decimals-of w f fit.wholes, le-leb _ _ a, lt-ltb _ _ b, le-leb _ _ fit.some, fit.wholes, fit.rests)

  pub tidy-fit : Fit (trimmed w) (shortened f)
  tidy-fit =
      let a = trimmed-length w in
      let b = shortened-length f in
      let h = fit.short in
      record {
        some = trimmed-some w fit.some;
        short = omega arith;
        wholes = trimmed-digits w fit.wholes;
        rests = shortened-digits f fit.rests;
      }

  pub tidy-value : meaning_of (trimmed w) (shortened f) ≡ meaning_of w f
  unfolding meaning_of
  tidy-value = rw (shortened-twice f, trimmed-numeral w (shortened f))

  -- ---- the meaning of an amount's text is in form

  digits-all : all_in Digit (w ++ shortened f) ≡ true
  digits-all = all_append Digit w (shortened f) ∙ and_both fit.wholes (shortened-digits f fit.rests)

  digits-few : length (w ++ shortened f) ≤ 14
  digits-few = let h = fit.short in let b = shortened-length f in rw length-append (omega arith)

  no-last-nought : (eqb (length (shortened f)) 0 || not (eqb (numeral (w ++ shortened f) % 10) 0)) ≡ true
  unfolding all_in
  no-last-nought = ⊎_elim none some (shortened-ends f)
    where
      none : shortened f ≡ [] → (eqb (length (shortened f)) 0 || not (eqb (numeral (w ++ shortened f) % 10) 0)) ≡ true
      none e = rw e

      some : Ends (shortened f) → (eqb (length (shortened f)) 0 || not (eqb (numeral (w ++ shortened f) % 10) 0)) ≡ true
      some x =
          let y : List ℕ = w ++ x.front in
          let e : w ++ shortened f ≡ y ++ x.last ∷ [] = ap (λ (l : List ℕ). w ++ l) x.is ∙ sym (append_assoc w x.front (x.last ∷ [])) in
          let d : in_class Digit x.last ≡ true = and_left _ _ (and_right (all_in Digit y) _ (sym (all_append Digit y (x.last ∷ [])) ∙ sym (ap (all_in Digit) e) ∙ digits-all)) in
          let low = digit_low x.last d in
          let n = x.some in
          let m : numeral (w ++ shortened f) % 10 ≡ x.last - 48 = ap (λ (l : List ℕ). numeral l % 10) e ∙ last-digit y x.last d in
          let z : x.last - 48 ≡ 0 → ⊥ = λ h. n (omega arith) in
          rw (m, ne_eqb (x.last - 48) 0 z) (or-true (eqb (length (shortened f)) 0))

  pub value-form : in_form (meaning_of w f) ≡ true
  unfolding in_form meaning_of
  value-form =
      let a : numeral (w ++ shortened f) < 10 ^ 14 = lt_of_lt_of_le (numeral-lt (w ++ shortened f) digits-all) (pow-le-pow_right (lit< tt) digits-few) in
      let h = fit.short in
      let g = fit.some in
      let b : length (shortened f) ≤ 13 = let k = shortened-length f in omega arith in
      and_both (lt-ltb _ _ a) (and_both (le-leb _ _ b) no-last-nought)

  -- ---- spelling the meaning gives the tidy text

  noughts : List ℕ
  noughts = replicate {A = ℕ} (14 - length (w ++ shortened f)) 48

  digits_are : digits 14 (numeral (w ++ shortened f)) ≡ (noughts ++ w) ++ shortened f
  unfolding noughts
  digits_are = digits_more 14 (w ++ shortened f) digits-all digits-few ∙ sym (append_assoc noughts w (shortened f))

  spread-is : spread (meaning_of w f) ≡ (noughts ++ w) ++ 44 ∷ shortened f
  unfolding spread meaning_of noughts
  spread-is =
      let n = digits-few in
      let k : length (w ++ shortened f) ≡ length w + length (shortened f) = length-append w (shortened f) in
      let l : length (noughts ++ w) ≡ 14 - length (shortened f) = length-append noughts w ∙ rw length-replicate (omega arith) in
      rw (digits_are, take_at (noughts ++ w) (shortened f) _ l, drop_at (noughts ++ w) (shortened f) _ l)

  pub text-value : amount_text (meaning_of w f) ≡ trimmed w ++ 44 ∷ shortened f
  unfolding amount_text noughts
  text-value =
      let d : all_in Digit (noughts ++ w) ≡ true =
      and_left _ _ (sym (all_append Digit (noughts ++ w) (shortened f)) ∙ sym (ap (all_in Digit) digits_are) ∙ all_digits 14 (numeral (w ++ shortened f)))
      in rw (value-form, spread-is, tidy_of (noughts ++ w) (shortened f) d, trimmed-noughts (14 - length (w ++ shortened f)) w fit.some, shortened-twice f)

-- ---- an amount in form

module _ (a : Amount) (form : in_form a ≡ true) where
  small : a.number < 10 ^ 14
  unfolding in_form
  small = ltb-true _ _ (and_left _ _ form)

  pub few-decimals : a.decimals ≤ 13
  unfolding in_form
  few-decimals = leb-true _ _ (and_left _ _ (and_right (ltb a.number (10 ^ 14)) _ form))

  ends : (eqb a.decimals 0 || not (eqb (a.number % 10) 0)) ≡ true
  unfolding in_form
  ends = and_right (leb a.decimals 13) _ (and_right (ltb a.number (10 ^ 14)) _ form)

  unfoldable pub front : List ℕ
  front = take (14 - a.decimals) (digits 14 a.number)

  unfoldable pub rest : List ℕ
  rest = drop (14 - a.decimals) (digits 14 a.number)

  front_rest : front ++ rest ≡ digits 14 a.number
  unfolding front rest
  front_rest = take-append-drop (14 - a.decimals) (digits 14 a.number)

  pub rest-length : length rest ≡ a.decimals
  unfolding rest
  rest-length = let k = few-decimals in rw (length-drop, length_digits 14 a.number) (omega arith)

  spread-fit : Fit front rest
  unfolding front rest
  spread-fit =
      let k = few-decimals in
      let n : length front ≡ 14 - a.decimals = rw (length-take, length_digits 14 a.number) (omega arith) in
      let r = rest-length in
      let d : (all_in Digit front && all_in Digit rest) ≡ true = sym (all_append Digit front rest) ∙ ap (all_in Digit) front_rest ∙ all_digits 14 a.number in
      record { some = omega arith; short = omega arith; wholes = and_left _ _ d; rests = and_right (all_in Digit front) _ d }

  rest-ends : (a.decimals ≡ 0 → ⊥) → Ends rest
  unfolding rest digits
  rest-ends h =
      let k = few-decimals in
      let l : length (digits 13 (a.number / 10)) ≡ 13 = length_digits 13 (a.number / 10) in
      let e : (false || not (eqb (a.number % 10) 0)) ≡ true = rw (ne_eqb a.decimals 0 h) at ends in
      let z : a.number % 10 ≡ 0 → ⊥ = eqb-false (a.number % 10) 0 (not-true (eqb (a.number % 10) 0) e) in
      record {
        front = drop (14 - a.decimals) (digits 13 (a.number / 10));
        last = 48 + a.number % 10;
        is = drop-append-le (14 - a.decimals) (digits 13 (a.number / 10)) _ (rw l (omega arith));
        some = λ g. z (omega arith);
      }

  -- the decimals end in no nought
  pub rest-stays : shortened rest ≡ rest
  unfolding shortened
  rest-stays = go (eqb a.decimals 0) refl
    where
      nothing : (x : List ℕ) → length x ≡ 0 → x ≡ []
      nothing [] e = refl
      nothing (b ∷ x) e = let z : ⊥ = omega arith in absurd z

      go : (b : Bool) → eqb a.decimals 0 ≡ b → shortened rest ≡ rest
      go true e = rw (nothing rest (rest-length ∙ eqb-true _ _ e))
      go false e = ends_stay rest (rest-ends (eqb-false a.decimals 0 e))

  spread-back : meaning_of front rest ≡ a
  unfolding meaning_of
  spread-back = let n = numeral-digits 14 a.number small in rw (rest-stays, front_rest, rest-length, n)

  pub text-parts : amount_text a ≡ trimmed front ++ 44 ∷ shortened rest
  text-parts = sym (ap amount_text spread-back) ∙ text-value front rest spread-fit

  -- reading the written text gives the amount back
  pub written-amount : is_amount (amount_text a) ≡ true
  written-amount = ap is_amount text-parts ∙ fit-amount (trimmed front) (shortened rest) (tidy-fit front rest spread-fit)

  pub written-value : meaning (amount_text a) ≡ a
  written-value =
      ap meaning text-parts ∙ value_of (trimmed front) (shortened rest) (tidy-fit front rest spread-fit).wholes
      ∙ tidy-value front rest spread-fit ∙ spread-back

  pub amount-round : amount_read (amount_text a) ≡ Some a
  unfolding amount_read
  amount-round = rw (written-amount, written-value)

  pub written-length : length (amount_text a) ≤ 15
  unfolding is_amount
  written-length = leb-true _ _ (and_left _ _ written-amount)

-- ---- the laws of an amount's text

module _ (s : List ℕ) (e : is_amount s ≡ true) where
  fit_of : Fit (whole s) (decimals s)
  fit_of = amount-fit s e

  pub value-in-form : in_form (meaning s) ≡ true
  unfolding meaning
  value-in-form = value-form (whole s) (decimals s) fit_of

  -- writing what was read gives the tidied text
  pub written-tidy : amount_text (meaning s) ≡ tidy s
  unfolding meaning tidy
  written-tidy = text-value (whole s) (decimals s) fit_of

  -- the tidied text is an amount's text of the same meaning
  pub tidy-amount : is_amount (tidy s) ≡ true
  tidy-amount = sym (ap is_amount written-tidy) ∙ written-amount (meaning s) value-in-form

  pub tidy-same : meaning (tidy s) ≡ meaning s
  tidy-same = sym (ap meaning written-tidy) ∙ written-value (meaning s) value-in-form

-- a text in tidy form is unchanged
pub tidy-tidy : (s : List ℕ) → is_amount s ≡ true → tidy (tidy s) ≡ tidy s
tidy-tidy s e = sym (written-tidy (tidy s) (tidy-amount s e)) ∙ ap amount_text (tidy-same s e) ∙ written-tidy s e

pub tidy-written : (a : Amount) → in_form a ≡ true → tidy (amount_text a) ≡ amount_text a
tidy-written a form = sym (written-tidy (amount_text a) (written-amount a form)) ∙ ap amount_text (written-value a form)

-- two texts read as the same amount exactly when their tidied texts are equal
pub same-amount : (s t : List ℕ) → is_amount s ≡ true → is_amount t ≡ true → (meaning s ≡ meaning t) ↔ (tidy s ≡ tidy t)
same-amount s t e f =
    (λ h. sym (written-tidy s e) ∙ ap amount_text h ∙ written-tidy t f, λ h. sym (tidy-same s e) ∙ ap meaning h ∙ tidy-same t f)
