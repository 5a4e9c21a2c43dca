use Prim.Native.Nat.{◌+◌, ◌≤◌}
use mathlib.Core.Path.{refl}
use lib.ListN.{length, drop, get_or, length-drop}
use borrow.Author.Tests.{ne_eqb}
use Rattle.std.proofs.Common.{Some}
use Rattle.text.proofs.Laws.{rest_of}
use native.Mathlib.Omega.{arith}
use Rattle.forms.specs.Slots.{slot_at}
use Rattle.measure.specs.Measure.{Measured}
use Rattle.glance.specs.Steps.{Ended, Ends}
use Rattle.glance.proofs.Turns.{head-begin, head-again, head-says}
use Rattle.glance.proofs.take_header.Goals as goal

pub loop-slot-init : goal.loop-slot-init
loop-slot-init c = head-begin _ _ _ _ _

pub overflow_add-at : goal.overflow_add-at
unfolding Measured
overflow_add-at c =
    let text = c.args.text.now in
    let measured : Measured (slot_at c.args.slots.now (get_or c.args.header.now c.loop-slot.slot-index 0)) (drop c.loop-slot.at text) (Some c.in_ok-n.n) =
    rw (rest_of c.loop-slot.at (length text) text refl) at c.in_ok-n.ensures
    in
    let ends-in : c.loop-slot.at + c.in_ok-n.n ≤ length text = omega (arith, measured.0, length-drop c.loop-slot.at text, c.loop-slot.invariant.place) in
    omega (arith, ends-in)

pub overflow_cast-slot : goal.overflow_cast-slot
overflow_cast-slot c =
    omega (arith, c.type_inv.header c.loop-slot.slot-index)

pub overflow_add-at-in-loop-slot : goal.overflow_add-at-in-loop-slot
unfolding Measured
overflow_add-at-in-loop-slot c =
    let text = c.args.text.now in
    let measured : Measured (slot_at c.args.slots.now (get_or c.args.header.now c.loop-slot.slot-index 0)) (drop c.loop-slot.at text) (Some c.in_ok-n.n) =
    rw (rest_of c.loop-slot.at (length text) text refl) at c.in_ok-n.ensures
    in
    let ends-in : c.loop-slot.at + c.in_ok-n.n ≤ length text = omega (arith, measured.0, length-drop c.loop-slot.at text, c.loop-slot.invariant.place) in
    omega (arith, ends-in)

pub keep-requires : goal.keep-requires
keep-requires c =
    omega (arith, c.loop-slot.invariant.place)

pub loop-slot-preserved : goal.loop-slot-preserved
unfolding Ends
loop-slot-preserved c =
    let text = c.args.text.now in
    let measured : Measured (slot_at c.args.slots.now (get_or c.args.header.now c.loop-slot.slot-index 0)) (drop c.loop-slot.at text) (Some c.in_ok-n.n) =
    rw (rest_of c.loop-slot.at (length text) text refl) at c.in_ok-n.ensures
    in
    let ended : Ended text (c.loop-slot.at + c.in_ok-n.n) c.in_ok-next.next = c.in_ok-next.ensures in
    let some = ne_eqb _ _ c.if-slot-eq0.false in
    head-again _ _ _ _ _ _ _ _ _ c.loop-slot.invariant _ _ measured ended c.loop-slot-test.true _ _ (rw some at c.keep.ensures.0) (rw some at c.keep.ensures.1)

pub returns : goal.returns
returns c = head-says _ _ _ _ _ _ _ _ _ c.loop-slot.invariant c.loop-slot-test.false
