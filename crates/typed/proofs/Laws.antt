-- What callers cite: a value that gets 0 is held in form, and what is held is written as the value, an amount as the tidied one; and
-- code words by their places.
-- Assumes nothing.
use Prim.Native.Nat.{ℕ, zero, suc, ◌<◌}
use mathlib.Core.Path.{◌≡◌, refl, sym}
use mathlib.Core.Bool.{Bool, true, false, cond}
use mathlib.Core.List.{List, ◌∷◌}
use native.Mathlib.Nat.{le_of_suc-le-suc, zero-lt-suc}
use native.Mathlib.Omega.{arith}
use lib.ListN.{length, get_or, get_or-eq_default}
use Rattle.std.proofs.Common.{Some, None, Option}
use Rattle.amount.specs.Amounts.{is_amount, tidy, amount_read, amount_number, amount_text, meaning, in_form as amount_form}
use Rattle.amount.proofs.Laws.{value-in-form, written-tidy}
use Rattle.calendar.specs.Dates.{is_date, is_moment, date_read, date_number, date_text, moment_read, moment_number, moment_text}
use Rattle.calendar.specs.declared.Date.{Date}
use Rattle.calendar.specs.declared.Moment.{Moment}
use Rattle.calendar.proofs.Laws.{date-back, moment-back}
use Rattle.typed.specs.Typed.{amount_or0, date_or0, moment_or0}

pub amount-held : (v : List ℕ) → amount_number (amount_read v) ≡ 0
    → (amount_form (amount_or0 (amount_read v)) ≡ true) × (amount_text (amount_or0 (amount_read v)) ≡ tidy v)
unfolding amount_read
amount-held v e = go (is_amount v) refl e
  where
    go : (b : Bool) → is_amount v ≡ b → amount_number (cond b (Some (meaning v)) None) ≡ 0
        → (amount_form (amount_or0 (cond b (Some (meaning v)) None)) ≡ true)
        × (amount_text (amount_or0 (cond b (Some (meaning v)) None)) ≡ tidy v)
    go true t h = (value-in-form v t, written-tidy v t)
    go false t h = let z : ⊥ = omega arith in absurd z

pub date-held : (v : List ℕ) → date_number (date_read v) ≡ 0
    → (is_date (date_or0 (date_read v)).0 ≡ true) × (date_text (date_or0 (date_read v)) ≡ v)
date-held v e = go (date_read v) refl e
  where
    go : (r : Option Date) → date_read v ≡ r → date_number r ≡ 0 → (is_date (date_or0 r).0 ≡ true) × (date_text (date_or0 r) ≡ v)
    go (Some d) t h = date-back v d t
    go None t h = let z : ⊥ = omega arith in absurd z

pub moment-held : (v : List ℕ) → moment_number (moment_read v) ≡ 0
    → (is_moment (moment_or0 (moment_read v)) ≡ true) × (moment_text (moment_or0 (moment_read v)) ≡ v)
moment-held v e = go (moment_read v) refl e
  where
    go : (r : Option Moment) → moment_read v ≡ r → moment_number r ≡ 0 → (is_moment (moment_or0 r) ≡ true) × (moment_text (moment_or0 r) ≡ v)
    go (Some m) t h = moment-back v m t
    go None t h = let z : ⊥ = omega arith in absurd z

-- ---- what is held of a word by its place: the first of a list answers for 0 and for every place behind the others

pub first_else : {T : Type 0} (first : T) (others : List T) (place : ℕ) → (0 < place → length others < place) → first ≡ get_or (first ∷ others) place first
first_else first others zero h = refl
first_else first others (suc n) h = sym (get_or-eq_default others first (le_of_suc-le-suc (h (zero-lt-suc n))))
