-- `fitting::see_beneath` meets its contract. Assumes nothing.
use mathlib.Core.Path.{refl}
use mathlib.Core.Logic.{inl, inr}
use Rattle.layout.specs.declared.Kind.{Kind}
use Rattle.layout.proofs.ByKind.{row_as, of_kind}
use Rattle.fitting.specs.Fitting.{glimpse_beneath}
use Rattle.fitting.proofs.Glimpses.{row-kind}
use Rattle.fitting.proofs.see_beneath.Goals as goal

pub returns-in-Field : goal.returns-in-Field
unfolding glimpse_beneath row_as
returns-in-Field c =
    elim c.in-Field.is [
      | inl e ↦ rw (row-kind _ _ _ c.of.ensures Kind.Field e _ c.requires.0 c.row_text-key.ensures) c.pass_over.ensures
      | inr e ↦ rw (row-kind _ _ _ c.of.ensures Kind.MayField e _ c.requires.0 c.row_text-key.ensures) c.pass_over.ensures
    ]

pub returns-in-Opens : goal.returns-in-Opens
unfolding glimpse_beneath row_as
returns-in-Opens c =
    elim c.in-Opens.is [
      | inl e ↦ rw (of_kind _ _ _ c.of.ensures Kind.Opens e _ refl)
      | inr (inl e) ↦ rw (of_kind _ _ _ c.of.ensures Kind.MayOpen e _ refl)
      | inr (inr (inl e)) ↦ rw (of_kind _ _ _ c.of.ensures Kind.Many e _ refl)
      | inr (inr (inr (inl e))) ↦ rw (of_kind _ _ _ c.of.ensures Kind.OneMore e _ refl)
      | inr (inr (inr (inr e))) ↦ rw (of_kind _ _ _ c.of.ensures Kind.Mark e _ refl)
    ]

pub returns-in-ManyClose : goal.returns-in-ManyClose
unfolding glimpse_beneath row_as
returns-in-ManyClose c = rw (row-kind _ _ _ c.of.ensures Kind.ManyClose c.in-ManyClose.is _ c.requires.0 c.row_text-key.ensures) c.pass_over-in-ManyClose.ensures

pub returns-in-Surplus : goal.returns-in-Surplus
unfolding glimpse_beneath row_as
returns-in-Surplus c =
    elim c.in-Surplus.is [
      | inl e ↦ rw (of_kind _ _ _ c.of.ensures Kind.Surplus e _ refl)
      | inr e ↦ rw (of_kind _ _ _ c.of.ensures Kind.Only e _ refl)
    ]

pub returns-in-Closes : goal.returns-in-Closes
unfolding glimpse_beneath row_as
returns-in-Closes c =
    elim c.in-Closes.is [
      | inl e ↦ rw (of_kind _ _ _ c.of.ensures Kind.Closes e _ refl)
      | inr e ↦ rw (of_kind _ _ _ c.of.ensures Kind.End e _ refl)
    ]
