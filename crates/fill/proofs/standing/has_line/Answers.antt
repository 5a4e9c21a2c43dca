-- `fill::standing::has_line` meets its contract. Assumes nothing.
use borrow.Author.Tests.{ne_eqb}
use Rattle.layout.specs.declared.Kind.{Kind}
use Rattle.fill.proofs.Rows.{apart, value_there, front-there}
use Rattle.fill.proofs.standing.has_line.Goals as goal

pub returns-in-Field : goal.returns-in-Field
returns-in-Field c = rw c.in-Field.is

pub returns-then-value-ne0 : goal.returns-then-value-ne0
returns-then-value-ne0 c =
    rw (ne_eqb _ 1 (apart _ Kind.Field c.in_default.not-Field), ne_eqb _ 0 c.if-value-ne0.true) (value_there c.args.front.now c.args.value.now c.if-value-ne0.true)

pub returns-else-value-ne0 : goal.returns-else-value-ne0
returns-else-value-ne0 c = rw (ne_eqb _ 1 (apart _ Kind.Field c.in_default.not-Field)) (front-there c.args.front.now c.args.value.now c.if-value-ne0.false)
