-- `fill::last_many` meets its contract. Assumes nothing.
use mathlib.Core.Logic.{inl, inr}
use borrow.Author.Tests.{ne_eqb}
use Rattle.layout.specs.declared.Kind.{Kind}
use Rattle.fill.proofs.Rows.{apart}
use Rattle.fill.proofs.last_many.Goals as goal

pub returns-in-Many : goal.returns-in-Many
returns-in-Many c = elim c.in-Many.is [ inl e ↦ rw e | inr e ↦ rw e ]

pub returns-in_default : goal.returns-in_default
returns-in_default c =
    let n = c.in_default in
    rw (ne_eqb _ 6 (apart _ Kind.Many n.not-Many), ne_eqb _ 7 (apart _ Kind.OneMore n.not-OneMore))
