-- `layout::look_beneath` meets its contract. Assumes nothing.
use mathlib.Core.Path.{refl}
use mathlib.Core.Logic.{inl, inr}
use Rattle.layout.specs.Layout.{beneath}
use Rattle.layout.specs.declared.Kind.{Kind}
use Rattle.layout.proofs.ByKind.{row_as, of_kind}
use Rattle.layout.proofs.look_beneath.Goals as goal

pub returns-in-Field : goal.returns-in-Field
unfolding beneath row_as
returns-in-Field c =
    elim c.in-Field.is [
      | inl e ↦ rw (of_kind _ _ _ c.of.ensures Kind.Field e _ c.key.ensures) c.look_inside.ensures
      | inr e ↦ rw (of_kind _ _ _ c.of.ensures Kind.MayField e _ c.key.ensures) c.look_inside.ensures
    ]

pub returns-in-Opens : goal.returns-in-Opens
unfolding beneath row_as
returns-in-Opens c =
    elim c.in-Opens.is [
      | inl e ↦ rw (of_kind _ _ _ c.of.ensures Kind.Opens e _ refl)
      | inr (inl e) ↦ rw (of_kind _ _ _ c.of.ensures Kind.MayOpen e _ refl)
      | inr (inr (inl e)) ↦ rw (of_kind _ _ _ c.of.ensures Kind.Many e _ refl)
      | inr (inr (inr (inl e))) ↦ rw (of_kind _ _ _ c.of.ensures Kind.OneMore e _ refl)
      | inr (inr (inr (inr e))) ↦ rw (of_kind _ _ _ c.of.ensures Kind.Mark e _ refl)
    ]

pub returns-then-closes_bare : goal.returns-then-closes_bare
unfolding beneath row_as
returns-then-closes_bare c = rw (of_kind _ _ _ c.of.ensures Kind.ManyClose c.in-ManyClose.is _ c.key-in-ManyClose.ensures, ← c.closes_bare.ensures, c.if-closes_bare.true, c.refuse.ensures)

pub returns-else-closes_bare : goal.returns-else-closes_bare
unfolding beneath row_as
returns-else-closes_bare c = rw (of_kind _ _ _ c.of.ensures Kind.ManyClose c.in-ManyClose.is _ c.key-in-ManyClose.ensures, ← c.closes_bare.ensures, c.if-closes_bare.false)

pub returns-in-Surplus : goal.returns-in-Surplus
unfolding beneath row_as
returns-in-Surplus c =
    elim c.in-Surplus.is [
      | inl e ↦ rw (of_kind _ _ _ c.of.ensures Kind.Surplus e _ refl)
      | inr e ↦ rw (of_kind _ _ _ c.of.ensures Kind.Only e _ refl)
    ]

pub returns-in-Closes : goal.returns-in-Closes
unfolding beneath row_as
returns-in-Closes c =
    elim c.in-Closes.is [
      | inl e ↦ rw (of_kind _ _ _ c.of.ensures Kind.Closes e _ refl)
      | inr e ↦ rw (of_kind _ _ _ c.of.ensures Kind.End e _ refl)
    ]
