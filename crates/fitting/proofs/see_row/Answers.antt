-- `fitting::see_row` meets its contract. Assumes nothing.
use Prim.Native.Nat.{◌+◌, ◌*◌}
use mathlib.Core.Bool.{and-true, and-false}
use native.Mathlib.Omega.{arith}
use mathlib.Core.Logic.{inl, inr}
use Rattle.layout.specs.declared.Kind.{Kind}
use Rattle.layout.proofs.ByKind.{row_as}
use Rattle.fitting.specs.Fitting.{may_stop, glimpse}
use Rattle.fitting.proofs.Glimpses.{row-kind}
use Rattle.fitting.proofs.see_row.Goals as goal

pub overflow_cast-slot : goal.overflow_cast-slot
overflow_cast-slot c = omega (arith, c.type_inv.table (c.args.row * 16 + 1))

pub returns-in-Field : goal.returns-in-Field
unfolding glimpse row_as
returns-in-Field c = rw (row-kind _ _ _ c.of.ensures Kind.Field c.in-Field.is _ c.requires c.row_text-key.ensures) c.see_field.ensures

pub returns-in-MayField : goal.returns-in-MayField
unfolding glimpse row_as
returns-in-MayField c = rw (row-kind _ _ _ c.of.ensures Kind.MayField c.in-MayField.is _ c.requires c.row_text-key.ensures) c.see_field-in-MayField.ensures

pub returns-in-Opens : goal.returns-in-Opens
unfolding glimpse row_as
returns-in-Opens c =
    elim c.in-Opens.is [
      | inl e ↦ rw (row-kind _ _ _ c.of.ensures Kind.Opens e _ c.requires c.row_text-key.ensures) c.see_edge.ensures
      | inr e ↦ rw (row-kind _ _ _ c.of.ensures Kind.Closes e _ c.requires c.row_text-key.ensures) c.see_edge.ensures
    ]

pub returns-in-MayOpen : goal.returns-in-MayOpen
unfolding glimpse row_as
returns-in-MayOpen c = rw (row-kind _ _ _ c.of.ensures Kind.MayOpen c.in-MayOpen.is _ c.requires c.row_text-key.ensures) c.see_edge-in-MayOpen.ensures

pub returns-in-Many : goal.returns-in-Many
unfolding glimpse row_as
returns-in-Many c = rw (row-kind _ _ _ c.of.ensures Kind.Many c.in-Many.is _ c.requires c.row_text-key.ensures, and-true) c.see_edge-in-Many.ensures

pub returns-then-lacks_one : goal.returns-then-lacks_one
unfolding glimpse row_as
returns-then-lacks_one c = rw (row-kind _ _ _ c.of.ensures Kind.OneMore c.in-OneMore.is _ c.requires c.row_text-key.ensures, ← c.lacks_one.ensures, c.if-lacks_one.true, and-true) c.see_edge-then-lacks_one.ensures

pub returns-else-lacks_one : goal.returns-else-lacks_one
unfolding glimpse row_as
returns-else-lacks_one c = rw (row-kind _ _ _ c.of.ensures Kind.OneMore c.in-OneMore.is _ c.requires c.row_text-key.ensures, ← c.lacks_one.ensures, c.if-lacks_one.false, and-false)

pub returns-in-Mark : goal.returns-in-Mark
unfolding glimpse row_as
returns-in-Mark c = rw (row-kind _ _ _ c.of.ensures Kind.Mark c.in-Mark.is _ c.requires c.row_text-key.ensures) c.see_mark.ensures

pub returns-in-ManyClose : goal.returns-in-ManyClose
unfolding glimpse row_as
returns-in-ManyClose c = rw (row-kind _ _ _ c.of.ensures Kind.ManyClose c.in-ManyClose.is _ c.requires c.row_text-key.ensures) c.see_edge-in-ManyClose.ensures

pub returns-in-Surplus : goal.returns-in-Surplus
unfolding glimpse row_as may_stop
returns-in-Surplus c = rw (row-kind _ _ _ c.of.ensures Kind.Surplus c.in-Surplus.is _ c.requires c.row_text-key.ensures, ← c.begins_with.ensures) c.unless.ensures

pub returns-in-Only : goal.returns-in-Only
unfolding glimpse row_as may_stop
returns-in-Only c = rw (row-kind _ _ _ c.of.ensures Kind.Only c.in-Only.is _ c.requires c.row_text-key.ensures, ← c.next_key.ensures, ← c.strays.ensures) c.unless-in-Only.ensures

pub returns-in-End : goal.returns-in-End
unfolding glimpse row_as
returns-in-End c = rw (row-kind _ _ _ c.of.ensures Kind.End c.in-End.is _ c.requires c.row_text-key.ensures)
