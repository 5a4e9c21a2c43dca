-- What callers cite: a payment in form is what its text is held as (`payment-back`); and a value that gets 0, or none, is held in form
-- and written as the value, tidied where it is there (`payment-held`).
-- Assumes nothing.
use Prim.Native.Nat.{ℕ}
use mathlib.Core.Path.{◌≡◌, refl, ap, ◌∙◌}
use mathlib.Core.Bool.{true, cond}
use mathlib.Core.List.{List, [], ◌∷◌}
use mathlib.Core.Logic.{◌⊎◌, inl, inr}
use native.Mathlib.Omega.{arith}
use lib.Dec.{eqb}
use lib.ListN.{length}
use borrow.Author.Tests.{ne_eqb}
use Rattle.std.proofs.Common.{Option, Some, None}
use Rattle.amount.specs.Amounts.{tidy, amount_read, amount_number, amount_text, in_form as amount_form}
use Rattle.amount.specs.declared.Amount.{Amount}
use Rattle.amount.proofs.Laws.{amount-comma, amount-round, written-amount}
use Rattle.typed.specs.Typed.{amount_or0}
use Rattle.typed.specs.Payments.{payment_in, payment_text, payment_form}
use Rattle.amount.specs.declared.Money.{Money}
use Rattle.typed.proofs.Laws.{amount-held}

abbrev payment : Option Amount → Option Money
payment r = Some (record { 0 = amount_or0 r })

-- a value that is there
pub some_in : (v : List ℕ) → (length v ≡ 0 → ⊥) → payment_in v ≡ payment (amount_read v)
unfolding payment_in
some_in v h = rw (ne_eqb (length v) 0 h)

-- an amount in form is written as some bytes
some-text : (a : Amount) → amount_form a ≡ true → length (amount_text a) ≡ 0 → ⊥
some-text a form e = let c = amount-comma (amount_text a) (written-amount a form) in omega arith

pub payment-back : (p : Option Money) → payment_form p ≡ true → payment_in (payment_text p) ≡ p
unfolding payment_in payment_text payment_form
payment-back None form = refl
payment-back (Some m) form = some_in (amount_text m.0) (some-text m.0 form) ∙ ap payment (amount-round m.0 form)

-- no payment is written as nothing, and any other as a value that gets 0
pub payment-number : (p : Option Money) → payment_form p ≡ true → (payment_text p ≡ []) ⊎ (amount_number (amount_read (payment_text p)) ≡ 0)
unfolding payment_text payment_form
payment-number None form = inl refl
payment-number (Some m) form = inr (ap amount_number (amount-round m.0 form))

pub payment-held : (v : List ℕ) → (v ≡ []) ⊎ (amount_number (amount_read v) ≡ 0)
    → (payment_form (payment_in v) ≡ true) × (payment_text (payment_in v) ≡ cond (eqb (length v) 0) [] (tidy v))
unfolding payment_in payment_text payment_form
payment-held v (inl e) = rw e (refl, refl)
payment-held [] (inr e) = (refl, refl)
payment-held (b ∷ v) (inr e) = rw (ne_eqb (length (b ∷ v)) 0 (λ h. let z : ⊥ = omega arith in z)) (amount-held (b ∷ v) e)
