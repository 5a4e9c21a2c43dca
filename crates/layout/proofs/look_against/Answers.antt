-- `layout::look_against` meets its contract. Assumes nothing.
use Prim.Native.Nat.{◌+◌, ◌*◌}
use native.Mathlib.Omega.{arith}
use Rattle.bars.specs.Bars.{stops, bar_number}
use Rattle.layout.specs.Layout.{against}
use Rattle.layout.specs.declared.Kind.{Kind}
use Rattle.layout.proofs.ByKind.{row_as, of_kind}
use Rattle.layout.proofs.look_against.Goals as goal

pub overflow_cast-slot : goal.overflow_cast-slot
overflow_cast-slot c = omega (arith, c.type_inv.table (c.args.row * 16 + 1))

pub returns-in-Field : goal.returns-in-Field
unfolding against row_as
returns-in-Field c = rw (of_kind _ _ _ c.of.ensures Kind.Field c.in-Field.is _ c.key-text.ensures) c.look_field.ensures

pub returns-in-MayField : goal.returns-in-MayField
unfolding against row_as
returns-in-MayField c = rw (of_kind _ _ _ c.of.ensures Kind.MayField c.in-MayField.is _ c.key-text.ensures) c.look_field-in-MayField.ensures

pub returns-in-Opens : goal.returns-in-Opens
unfolding against row_as
returns-in-Opens c = rw (of_kind _ _ _ c.of.ensures Kind.Opens c.in-Opens.is _ c.key-text.ensures) c.look_opens.ensures

pub returns-in-MayOpen : goal.returns-in-MayOpen
unfolding against row_as
returns-in-MayOpen c = rw (of_kind _ _ _ c.of.ensures Kind.MayOpen c.in-MayOpen.is _ c.key-text.ensures) c.look_opens-in-MayOpen.ensures

pub returns-in-Closes : goal.returns-in-Closes
unfolding against row_as
returns-in-Closes c = rw (of_kind _ _ _ c.of.ensures Kind.Closes c.in-Closes.is _ c.key-text.ensures) c.look_closes.ensures

pub returns-in-Many : goal.returns-in-Many
unfolding against row_as
returns-in-Many c = rw (of_kind _ _ _ c.of.ensures Kind.Many c.in-Many.is _ c.key-text.ensures) c.look_many.ensures

pub returns-in-OneMore : goal.returns-in-OneMore
unfolding against row_as
returns-in-OneMore c = rw (of_kind _ _ _ c.of.ensures Kind.OneMore c.in-OneMore.is _ c.key-text.ensures, ← c.lacks_one-lacking.ensures) c.look_many-in-OneMore.ensures

pub returns-in-Mark : goal.returns-in-Mark
unfolding against row_as
returns-in-Mark c = rw (of_kind _ _ _ c.of.ensures Kind.Mark c.in-Mark.is _ c.key-text.ensures, ← c.is_seen.ensures) c.look_mark.ensures

pub returns-in-ManyClose : goal.returns-in-ManyClose
unfolding against row_as
returns-in-ManyClose c = rw (of_kind _ _ _ c.of.ensures Kind.ManyClose c.in-ManyClose.is _ c.key-text.ensures) c.look_closes-in-ManyClose.ensures

pub returns-in-Surplus : goal.returns-in-Surplus
unfolding against row_as stops
returns-in-Surplus c = rw (of_kind _ _ _ c.of.ensures Kind.Surplus c.in-Surplus.is _ c.key-text.ensures) c.look_surplus.ensures

pub returns-in-Only : goal.returns-in-Only
unfolding against row_as stops bar_number
returns-in-Only c = rw (of_kind _ _ _ c.of.ensures Kind.Only c.in-Only.is _ c.key-text.ensures, ← c.next_key.ensures) c.look_only.ensures

pub returns-in-End : goal.returns-in-End
unfolding against row_as
returns-in-End c = rw (of_kind _ _ _ c.of.ensures Kind.End c.in-End.is _ c.key-text.ensures, c.refuse.ensures)
