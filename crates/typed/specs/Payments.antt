-- A sum of money that need not be there: what a value of a slot is held as, and how it is written. Zero is a sum, and is not absent.
use Rattle.std.specs.Prelude.{ℕ, Bool, true, cond, List, [], eqb, length, Option, Some, None}
use Rattle.amount.specs.Amounts.{amount_read, amount_text, in_form}
use Rattle.typed.specs.Typed.{amount_or0}
use Rattle.amount.specs.declared.Money.{Money}

-- a slot without a value has no payment
unfoldable pub payment_in : List ℕ → Option Money
payment_in v = cond (eqb (length v) 0) None (Some (record { 0 = amount_or0 (amount_read v) }))

unfoldable pub payment_text : Option Money → List ℕ
payment_text None = []
payment_text (Some m) = amount_text m.0

unfoldable pub payment_form : Option Money → Bool
payment_form None = true
payment_form (Some m) = in_form m.0
