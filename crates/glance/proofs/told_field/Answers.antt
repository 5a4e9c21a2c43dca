-- `glance::told_field` meets its contract. Assumes nothing.
-- how many bytes are a value
use mathlib.Core.Path.{refl, sym, ◌∙◌}
use mathlib.Core.Bool.{true≢false}
use native.Mathlib.Omega.{arith}
use lib.ListN.{length, drop, length-drop}
use Rattle.std.proofs.Common.{Some}
use Rattle.text.proofs.Laws.{rest_of}
use Rattle.forms.specs.Slots.{slot_at}
use Rattle.glance.proofs.Sights.{field-seen}
use Rattle.measure.specs.Measure.{Measured}
use Rattle.glance.specs.Steps.{FieldSeen}
use Rattle.glance.proofs.told_field.Goals as goal

pub returns-then-text-width : goal.returns-then-text-width
unfolding FieldSeen
returns-then-text-width c = λ t. absurd (true≢false (sym t ∙ c.nothing.ensures))

pub returns-in_default : goal.returns-in_default
unfolding FieldSeen
returns-in_default c = λ t. absurd (true≢false (sym t ∙ c.nothing-in_default.ensures))

pub overflow_add-width : goal.overflow_add-width
unfolding Measured
overflow_add-width c =
    let measured : Measured (slot_at c.args.slots.now c.args.step.slot) (drop c.args.width c.args.text.now) (Some c.in-Some.n) =
    let s = c.args.text.now in
    let k = c.args.width in
    rw (c.in-Some.is, rest_of k (length s) s refl) at c.value.ensures
    in
    let m = measured.0 in
    let s = c.args.text.now in
    let l = length-drop c.args.width s in
    omega (arith, m, l, c.if-text-width.false, c.well_formed.0.1)

pub returns : goal.returns
returns c =
    let measured : Measured (slot_at c.args.slots.now c.args.step.slot) (drop c.args.width c.args.text.now) (Some c.in-Some.n) =
    let s = c.args.text.now in
    let k = c.args.width in
    rw (c.in-Some.is, rest_of k (length s) s refl) at c.value.ensures
    in
    field-seen _ _ _ _ _ _ c.if-text-width.false measured c.told.ensures
