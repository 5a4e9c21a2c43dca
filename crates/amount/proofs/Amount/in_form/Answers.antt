-- `amount::Amount::in_form` meets its contract. Assumes nothing.
use borrow.Author.Tests.{le-leb, lt-leb, eq-eqb, ne_eqb}
use Rattle.amount.specs.Amounts.{in_form}
use Rattle.amount.proofs.Noughts.{not-large, large}
use Rattle.amount.proofs.Amount.in_form.Goals as goal

pub returns-then-self : goal.returns-then-self
unfolding in_form
returns-then-self c = rw (large _ c.if-self.true)

pub returns-then-self-gt13 : goal.returns-then-self-gt13
unfolding in_form
returns-then-self-gt13 c = rw (not-large _ c.if-self.false, lt-leb _ _ c.if-self-gt13.true)

pub returns-then-self-eq0 : goal.returns-then-self-eq0
unfolding in_form
returns-then-self-eq0 c = rw (not-large _ c.if-self.false, le-leb _ _ c.if-self-gt13.false, eq-eqb _ _ c.if-self-eq0.true)

pub returns : goal.returns
unfolding in_form
returns c = rw (not-large _ c.if-self.false, le-leb _ _ c.if-self-gt13.false, ne_eqb _ _ c.if-self-eq0.false)
