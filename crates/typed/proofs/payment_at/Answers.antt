-- `typed::payment_at` meets its contract. Assumes nothing.
use mathlib.Core.Path.{sym, ap, ◌∙◌}
use lib.ListN.{length}
use borrow.Author.Tests.{eq-eqb}
use Rattle.typed.specs.Payments.{payment_in}
use Rattle.typed.proofs.PaymentTexts.{some_in}
use Rattle.typed.proofs.payment_at.Goals as goal

pub returns-then-value-eq0 : goal.returns-then-value-eq0
unfolding payment_in
returns-then-value-eq0 c = rw (← c.stretch-value.ensures, eq-eqb _ _ c.if-value-eq0.true)

pub returns : goal.returns
returns c = rw (c.of.ensures, c.amount_at.ensures) (sym (some_in _ (λ h. c.if-value-eq0.false (ap length c.stretch-value.ensures ∙ h))))
