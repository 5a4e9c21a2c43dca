-- `fitting::pass_over` meets its contract. Assumes nothing.
use borrow.Author.Tests.{eq-eqb, ne_eqb}
use Rattle.fitting.proofs.pass_over.Goals as goal

pub returns-then-deep-eq1 : goal.returns-then-deep-eq1
returns-then-deep-eq1 c =
    let bare = c.if-unmarked.true in
    rw (bare, eq-eqb _ _ c.if-deep-eq1.true, ← c.begins_with.ensures) (rw bare at c.unless.ensures)

pub returns-else-deep-eq1 : goal.returns-else-deep-eq1
returns-else-deep-eq1 c = rw (c.if-unmarked.true, ne_eqb _ _ c.if-deep-eq1.false)

pub returns-else-unmarked : goal.returns-else-unmarked
returns-else-unmarked c = rw c.if-unmarked.false
