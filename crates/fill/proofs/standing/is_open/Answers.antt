-- `fill::standing::is_open` meets its contract. Assumes nothing.
use borrow.Author.Tests.{ne_eqb}
use Rattle.layout.specs.declared.Kind.{Kind}
use Rattle.fill.proofs.Rows.{apart}
use Rattle.fill.proofs.standing.is_open.Goals as goal

pub returns-in-MayOpen : goal.returns-in-MayOpen
returns-in-MayOpen c = rw c.in-MayOpen.is c.any_value.ensures

pub returns-in_default : goal.returns-in_default
returns-in_default c = rw (ne_eqb _ 4 (apart _ Kind.MayOpen c.in_default.not-MayOpen))
