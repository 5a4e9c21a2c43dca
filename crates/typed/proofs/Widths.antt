-- What callers cite: how many bytes the text of a held value has at most.
-- Assumes nothing.
use Prim.Native.Nat.{ℕ, ◌+◌, ◌*◌, ◌≤◌}
use mathlib.Core.Path.{◌≡◌, refl, ap}
use mathlib.Core.Bool.{Bool, true, false, cond}
use mathlib.Core.List.{List, []}
use native.Mathlib.Omega.{arith}
use lib.ListN.{length}
use Rattle.std.proofs.Common.{Option, Some, None}
use Rattle.digits.specs.Numerals.{digits}
use Rattle.digits.proofs.Laws.{length_digits}
use Rattle.amount.specs.Amounts.{in_form as amount_form, amount_text}
use Rattle.amount.specs.declared.Amount.{Amount}
use Rattle.amount.proofs.Laws.{written-length}
use Rattle.amount.proofs.Noughts.{text-none}
use Rattle.calendar.specs.Dates.{is_date, is_moment, date_text, moment_text}
use Rattle.calendar.specs.declared.Date.{Date}
use Rattle.calendar.specs.declared.Moment.{Moment}
use Rattle.typed.specs.Payments.{payment_text}
use Rattle.amount.specs.declared.Money.{Money}

pub moment-most : (m : Moment) → length (moment_text m) ≤ 14
unfolding moment_text
moment-most m = go (is_moment m)
  where
    go : (b : Bool) → length (cond b (digits 14 (m.date.0 * 1000000 + m.time.0)) []) ≤ 14
    go true = let l = length_digits 14 (m.date.0 * 1000000 + m.time.0) in omega arith
    go false = omega arith

pub date-most : (d : Date) → length (date_text d) ≤ 8
unfolding date_text
date-most d = go (is_date d.0)
  where
    go : (b : Bool) → length (cond b (digits 8 d.0) []) ≤ 8
    go true = let l = length_digits 8 d.0 in omega arith
    go false = omega arith

pub amount-most : (a : Amount) → length (amount_text a) ≤ 15
amount-most a = go (amount_form a) refl
  where
    go : (b : Bool) → amount_form a ≡ b → length (amount_text a) ≤ 15
    go true e = written-length a e
    go false e = let l = ap length (text-none a e) in omega arith

pub payment-most : (p : Option Money) → length (payment_text p) ≤ 15
unfolding payment_text
payment-most None = omega arith
payment-most (Some m) = amount-most m.0

-- ---- code words

pub word-most : (w v : List ℕ) → w ≡ v → length v ≡ 4 → length w ≤ 4
word-most w v e f = let l = ap length e in omega arith
