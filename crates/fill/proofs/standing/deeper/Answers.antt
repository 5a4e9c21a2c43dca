-- `fill::standing::deeper` meets its contract. Assumes nothing.
use mathlib.Core.List.{[]}
use mathlib.Core.Logic.{inl, inr}
use native.Mathlib.Numerals.{add-one}
use borrow.Author.Tests.{ne_eqb}
use Rattle.layout.specs.declared.Kind.{Kind}
use Rattle.layout.specs.Rows.{row_of}
use Rattle.fill.specs.Filling.{deeper}
use Rattle.fill.proofs.Rows.{apart, deeper-by}
use Rattle.fill.proofs.standing.deeper.Goals as goal

pub returns-in-Opens : goal.returns-in-Opens
unfolding deeper row_of
returns-in-Opens c = elim c.in-Opens.is [ inl e ↦ rw e (add-one _) | inr (inl e) ↦ rw e (add-one _) | inr (inr e) ↦ rw e (add-one _) ]

pub returns-in-Closes : goal.returns-in-Closes
unfolding deeper row_of
returns-in-Closes c = elim c.in-Closes.is [ inl e ↦ rw e c.lower.ensures | inr e ↦ rw e c.lower.ensures ]

pub returns-in_default : goal.returns-in_default
returns-in_default c =
    let n = c.in_default in
    rw (deeper-by 0 [] _ _, ne_eqb _ 3 (apart _ Kind.Opens n.not-Opens), ne_eqb _ 4 (apart _ Kind.MayOpen n.not-MayOpen), ne_eqb _ 5 (apart _ Kind.Closes n.not-Closes), ne_eqb _ 8 (apart _ Kind.Mark n.not-Mark), ne_eqb _ 9 (apart _ Kind.ManyClose n.not-ManyClose))
