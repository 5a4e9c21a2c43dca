-- `typed::payments::put_payment` meets its contract. Assumes nothing.
use native.Mathlib.Omega.{arith}
use Rattle.typed.specs.Payments.{payment_text}
use Rattle.typed.proofs.Widths.{amount-most}
use Rattle.typed.proofs.payments.put_payment.Goals as goal

pub returns-in-None : goal.returns-in-None
unfolding payment_text
returns-in-None c =
    let e = c.put.ensures in
    rw c.in-None.is (e.0, e.1, omega arith)

pub returns-in-Some : goal.returns-in-Some
unfolding payment_text
returns-in-Some c =
    let e = c.put-in-Some.ensures in
    rw c.in-Some.is (e.0, e.1, amount-most _)
