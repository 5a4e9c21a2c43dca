-- What callers cite: a value that passes is nine c, a value that passes and the text that holds it tell each other, and eight characters
-- have one check digit.
-- Assumes nothing.
use Prim.Native.Nat.{ℕ, zero, suc, ◌+◌, ◌-◌, ◌%◌}
use mathlib.Core.Path.{◌≡◌, refl, ap, ◌∙◌}
use mathlib.Core.Bool.{Bool, true, false, ◌&&◌, cond}
use mathlib.Core.List.{List, [], ◌∷◌, ◌++◌}
use native.Mathlib.Omega.{arith}
use lib.Dec.{leb, eqb}
use lib.ListN.{length, get_or}
use borrow.Author.Tests.{leb-true, le-leb, eqb-true, eq-eqb}
use Rattle.text.specs.Classes.{is_between, is_digit, is_code}
use Rattle.text.specs.Texts.{contents, text_of, in_form}
use Rattle.text.specs.Texts.{Text}
use Rattle.text.proofs.Bools.{alike}
use Rattle.text.proofs.Codes.{code-text, text-code}
use Rattle.text.proofs.Laws.{and_left, and_right, and_both}
use Rattle.security.specs.Security.{worth, weighed, adds, sum_from, is_checked, security_number, security_form, check_digit, OneDigit}

-- ---- a value that passes

pub security-passes : (v : List ℕ) → security_number v ≡ 0 → (is_code 9 9 v ≡ true) × (is_checked v ≡ true)
unfolding security_number
security-passes v h = go (is_code 9 9 v) (is_checked v) h
  where
    go : (a b : Bool) → ◌≡◌ {A = ℕ} (cond a (cond b 0 23) 10) 0 → (a ≡ true) × (b ≡ true)
    go true true e = (refl, refl)
    go true false e = let z : ⊥ = omega arith in absurd z
    go false b e = let z : ⊥ = omega arith in absurd z

pub passes-security : (v : List ℕ) → is_code 9 9 v ≡ true → is_checked v ≡ true → security_number v ≡ 0
unfolding security_number
passes-security v c h = rw (c, h)

-- it is held as a text in form, and that text is written as the value
pub security-text : (v : List ℕ) → security_number v ≡ 0 → (security_form (text_of v) ≡ true) × (contents (text_of v) ≡ v)
unfolding security_form
security-text v h =
    let p = security-passes v h in
    let t = code-text 9 9 v (omega arith) p.0 in
    (and_both t.0 (ap is_checked t.1 ∙ p.1), t.1)

pub text-security : (x : Text) → security_form x ≡ true → security_number (contents x) ≡ 0
unfolding security_form
text-security x e = passes-security (contents x) (text-code 9 9 x (and_left _ _ e)) (and_right (in_form 9 9 x) _ e)

-- ---- the check digit of eight characters

sum-append : (place : ℕ) (s : List ℕ) (b n : ℕ) → length s + place ≡ n → sum_from place (s ++ b ∷ []) ≡ sum_from place s + adds n b
unfolding sum_from
sum-append place [] b n e = let i : n ≡ place = omega arith in rw i (omega arith)
sum-append place (a ∷ s) b n e = let i = sum-append (suc place) s b n (omega arith) in omega arith

last-at : (s : List ℕ) (b n : ℕ) → length s ≡ n → get_or (s ++ b ∷ []) n 0 ≡ b
last-at [] b n e = rw (← e)
last-at (a ∷ s) b zero e = let z : ⊥ = omega arith in absurd z
last-at (a ∷ s) b (suc n) e = last-at s b n (omega arith)

-- in the ninth place a digit adds itself
digit-adds : (b : ℕ) → is_digit b ≡ true → adds 9 b ≡ b - 48
unfolding adds weighed worth is_digit is_between
digit-adds b d =
    let h = leb-true b 57 (and_right (leb 48 b) _ d) in
    rw d (omega arith)

module _ (s : List ℕ) (b : ℕ) (eight : length s ≡ 8) where
  checked-is : is_checked (s ++ b ∷ []) ≡ (is_digit b && eqb ((sum_from 1 s + adds 9 b) % 10) 0)
  unfolding is_checked
  checked-is = rw (last-at s b 8 eight, sum-append 1 s b 9 (omega arith))

  there : (is_digit b && eqb ((sum_from 1 s + adds 9 b) % 10) 0) ≡ true → eqb b (check_digit s) ≡ true
  unfolding check_digit is_digit is_between
  there e =
      let d : is_digit b ≡ true = and_left _ _ e in
      let l = leb-true 48 b (and_left _ _ d) in
      let h = leb-true b 57 (and_right (leb 48 b) _ d) in
      let a = digit-adds b d in
      let z = eqb-true ((sum_from 1 s + adds 9 b) % 10) 0 (and_right (is_digit b) _ e) in
      eq-eqb b (48 + (10 - sum_from 1 s % 10) % 10) (omega arith)

  back : eqb b (check_digit s) ≡ true → (is_digit b && eqb ((sum_from 1 s + adds 9 b) % 10) 0) ≡ true
  unfolding check_digit is_digit is_between
  back e =
      let i : b ≡ 48 + (10 - sum_from 1 s % 10) % 10 = eqb-true b (48 + (10 - sum_from 1 s % 10) % 10) e in
      let d : is_digit b ≡ true = and_both (le-leb 48 b (omega arith)) (le-leb b 57 (omega arith)) in
      let a = digit-adds b d in
      and_both d (eq-eqb ((sum_from 1 s + adds 9 b) % 10) 0 (omega arith))

pub one-digit : OneDigit
one-digit s b eight = checked-is s b eight ∙ alike _ _ (there s b eight) (back s b eight)
