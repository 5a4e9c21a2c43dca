-- `fill::standing::has_value` meets its contract. Assumes nothing.
use mathlib.Core.List.{[]}
use mathlib.Core.Logic.{inl, inr}
use borrow.Author.Tests.{ne_eqb}
use Rattle.layout.specs.declared.Kind.{Kind}
use Rattle.layout.specs.Rows.{row_of}
use Rattle.fill.specs.Filling.{has_value}
use Rattle.fill.proofs.Rows.{apart, has-by}
use Rattle.fill.proofs.standing.has_value.Goals as goal

pub returns-in-Field : goal.returns-in-Field
unfolding has_value row_of
returns-in-Field c = elim c.in-Field.is [ inl e ↦ rw e c.is_there.ensures | inr (inl e) ↦ rw e c.is_there.ensures | inr (inr e) ↦ rw e c.is_there.ensures ]

pub returns-in_default : goal.returns-in_default
returns-in_default c =
    let n = c.in_default in
    rw (has-by _ [] _ _, ne_eqb _ 1 (apart _ Kind.Field n.not-Field), ne_eqb _ 2 (apart _ Kind.MayField n.not-MayField), ne_eqb _ 8 (apart _ Kind.Mark n.not-Mark))
