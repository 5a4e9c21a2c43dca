use Prim.Native.Nat.{◌+◌, ◌≤◌, ◌<◌}
use mathlib.Core.Path.{refl, sym}
use lib.ListN.{length, drop}
use native.Mathlib.Omega.{arith}
use borrow.Author.Tests.{not-false}
use Rattle.text.proofs.Laws.{rest_of}
use Rattle.layout.specs.Rows.{rows_of}
use Rattle.forms.specs.Slots.{slot_at}
use Rattle.glance.specs.Steps.{Sees, BodySays}
use Rattle.glance.proofs.Turns.{body-begin, body-again, body-says, within}
use Rattle.glance.proofs.take_body.Goals as goal

pub loop-here-init : goal.loop-here-init
loop-here-init c = body-begin _ _ _ _ _ _ c.requires

pub returns-then-not-taken : goal.returns-then-not-taken
unfolding BodySays
returns-then-not-taken c = tt

pub overflow_add-stop : goal.overflow_add-stop
unfolding Sees
overflow_add-stop c =
    let s = c.args.text.now in
    let r = c.see-taken.result in
    let looked : Sees (rows_of c.args.rows.now) (slot_at c.args.slots.now) c.loop-here.here c.loop-here.seen (drop c.loop-here.at s) r =
    rw (rest_of c.loop-here.at (length s) s refl) at c.see-taken.ensures
    in
    let ends-in : (c.loop-here.at + r.next ≤ length s) × (r.end < r.next) × (r.value ≤ r.end) =
    let t = looked (not-false _ c.if-not-taken.false) in
    let w = within _ _ _ _ c.loop-here.invariant.place t.1 in
    (w.0, w.1, t.0)
    in
    omega (arith, ends-in.0, ends-in.1, ends-in.2)

pub overflow_add-at : goal.overflow_add-at
unfolding Sees
overflow_add-at c =
    let s = c.args.text.now in
    let r = c.see-taken.result in
    let looked : Sees (rows_of c.args.rows.now) (slot_at c.args.slots.now) c.loop-here.here c.loop-here.seen (drop c.loop-here.at s) r =
    rw (rest_of c.loop-here.at (length s) s refl) at c.see-taken.ensures
    in
    let ends-in : (c.loop-here.at + r.next ≤ length s) × (r.end < r.next) × (r.value ≤ r.end) =
    let t = looked (not-false _ c.if-not-taken.false) in
    let w = within _ _ _ _ c.loop-here.invariant.place t.1 in
    (w.0, w.1, t.0)
    in
    omega (arith, ends-in.0, ends-in.1, ends-in.2)

pub keep-requires : goal.keep-requires
unfolding Sees
keep-requires c =
    let s = c.args.text.now in
    let r = c.see-taken.result in
    let looked : Sees (rows_of c.args.rows.now) (slot_at c.args.slots.now) c.loop-here.here c.loop-here.seen (drop c.loop-here.at s) r =
    rw (rest_of c.loop-here.at (length s) s refl) at c.see-taken.ensures
    in
    let ends-in : (c.loop-here.at + r.next ≤ length s) × (r.end < r.next) × (r.value ≤ r.end) =
    let t = looked (not-false _ c.if-not-taken.false) in
    let w = within _ _ _ _ c.loop-here.invariant.place t.1 in
    (w.0, w.1, t.0)
    in
    omega (arith, ends-in.0, ends-in.1, ends-in.2)

pub slice_bounds-mark-end : goal.slice_bounds-mark-end
slice_bounds-mark-end c =
    sym c.loop-here.invariant.seen-long

pub overflow_add-at-in-loop-here : goal.overflow_add-at-in-loop-here
unfolding Sees
overflow_add-at-in-loop-here c =
    let s = c.args.text.now in
    let r = c.see-taken.result in
    let looked : Sees (rows_of c.args.rows.now) (slot_at c.args.slots.now) c.loop-here.here c.loop-here.seen (drop c.loop-here.at s) r =
    rw (rest_of c.loop-here.at (length s) s refl) at c.see-taken.ensures
    in
    let ends-in : (c.loop-here.at + r.next ≤ length s) × (r.end < r.next) × (r.value ≤ r.end) =
    let t = looked (not-false _ c.if-not-taken.false) in
    let w = within _ _ _ _ c.loop-here.invariant.place t.1 in
    (w.0, w.1, t.0)
    in
    omega (arith, ends-in.0, ends-in.1, ends-in.2)

pub loop-here-smaller : goal.loop-here-smaller
unfolding Sees
loop-here-smaller c =
    let s = c.args.text.now in
    let r = c.see-taken.result in
    let looked : Sees (rows_of c.args.rows.now) (slot_at c.args.slots.now) c.loop-here.here c.loop-here.seen (drop c.loop-here.at s) r =
    rw (rest_of c.loop-here.at (length s) s refl) at c.see-taken.ensures
    in
    let ends-in : (c.loop-here.at + r.next ≤ length s) × (r.end < r.next) × (r.value ≤ r.end) =
    let t = looked (not-false _ c.if-not-taken.false) in
    let w = within _ _ _ _ c.loop-here.invariant.place t.1 in
    (w.0, w.1, t.0)
    in
    omega (arith, ends-in.0, ends-in.1, ends-in.2)

pub loop-here-preserved : goal.loop-here-preserved
loop-here-preserved c =
    let s = c.args.text.now in
    let r = c.see-taken.result in
    let looked : Sees (rows_of c.args.rows.now) (slot_at c.args.slots.now) c.loop-here.here c.loop-here.seen (drop c.loop-here.at s) r =
    rw (rest_of c.loop-here.at (length s) s refl) at c.see-taken.ensures
    in
    body-again _ _ _ _ _ _ _ _ _ _ _ _ _ c.loop-here.invariant _ (not-false _ c.if-not-taken.false) looked _ _ _ c.keep.ensures.0 c.keep.ensures.1 c.mark.ensures

pub returns : goal.returns
returns c = body-says _ _ _ _ _ _ _ _ _ _ _ _ _ c.loop-here.invariant _ c.closed.ensures
