-- `measure::value` meets its contract. Assumes nothing.
use mathlib.Core.Path.{refl}
use native.Mathlib.Omega.{arith}
use Rattle.text.proofs.Laws.{rest_of}
use Rattle.measure.proofs.Laws.{line-within, line-told, line-long, told-within, slot_is}
use Rattle.measure.proofs.value.Goals as goal

pub slice_bounds-form_width-count : goal.slice_bounds-form_width-count
slice_bounds-form_width-count c =
    let a = c.args in
    line-within a.slots.now _ a.text.now _ (line-long a.slots.now a.slot c.if-slots-at.false) c.in_ok-len.ensures

pub slice_bounds-form_width-start : goal.slice_bounds-form_width-start
slice_bounds-form_width-start c =
    let a = c.args in
    line-within a.slots.now _ a.text.now _ (line-long a.slots.now a.slot c.if-slots-at.false) c.in_ok-len.ensures

pub returns : goal.returns
returns c =
    let a = c.args in
    let t = line-told a.slots.now _ a.text.now _ (line-long a.slots.now a.slot c.if-slots-at.false) c.in_ok-len.ensures _ _
    (rest_of c.in_ok-len.len _ a.text.now refl) c.in_ok-n.ensures in
    rw (slot_is a.slots.now a.slot c.if-slots-at.false _ refl) at t

pub overflow_add-result : goal.overflow_add-result
overflow_add-result c =
    let a = c.args in
    let t = line-told a.slots.now _ a.text.now _ (line-long a.slots.now a.slot c.if-slots-at.false) c.in_ok-len.ensures _ _
    (rest_of c.in_ok-len.len _ a.text.now refl) c.in_ok-n.ensures in
    let r = rw (slot_is a.slots.now a.slot c.if-slots-at.false _ refl) at t in
    omega (arith, told-within _ _ _ r)
