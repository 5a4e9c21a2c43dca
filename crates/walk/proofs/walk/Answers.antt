use Prim.Native.Nat.{◌+◌, ◌-◌, ◌≤◌}
use lib.ListN.{length}
use native.Mathlib.Omega.{arith}
use Rattle.lines.specs.Verdicts.{refused, pass}
use Rattle.lines.proofs.Laws.{Located, located}
use Rattle.walk.proofs.Lines.{begin, width-in, refusal, again, over}
use Rattle.walk.proofs.walk.Goals as goal

pub loop-at-init : goal.loop-at-init
unfolding pass refused
loop-at-init c = let g = c.well_formed.1.1.1 in begin _ _ _ _ _ _ c.behind-at.ensures g.0.1.0.1 g.1.0.1.0.1

pub slice_bounds-next_step-count : goal.slice_bounds-next_step-count
slice_bounds-next_step-count c =
    let place : Located c.args.message.now c.loop-at.at c.line_at-line.result.end c.line_at-line.result.next =
    located _ _ _ c.line_at-line.ensures c.loop-at-test.true
    in
    place.starts

pub slice_bounds-next_step-start : goal.slice_bounds-next_step-start
slice_bounds-next_step-start c =
    let place : Located c.args.message.now c.loop-at.at c.line_at-line.result.end c.line_at-line.result.next =
    located _ _ _ c.line_at-line.ensures c.loop-at-test.true
    in
    place.starts

pub slice_bounds-next_step-end-in-loop-at : goal.slice_bounds-next_step-end-in-loop-at
slice_bounds-next_step-end-in-loop-at c =
    let place : Located c.args.message.now c.loop-at.at c.line_at-line.result.end c.line_at-line.result.next =
    located _ _ _ c.line_at-line.ensures c.loop-at-test.true
    in
    let stops : c.line_at-line.result.end ≤ length c.args.message.now =
    let a = place.ends in let b = place.within in omega arith
    in
    stops

pub returns-then-number-ne0 : goal.returns-then-number-ne0
unfolding refused
returns-then-number-ne0 c = refusal _ _ _ _ _ _ _ _ _ _ _ _ c.loop-at.invariant _ c.line_at-line.ensures c.loop-at-test.true _ c.next_step-step.ensures c.if-number-ne0.true

pub overflow_add-value : goal.overflow_add-value
overflow_add-value c =
    let place : Located c.args.message.now c.loop-at.at c.line_at-line.result.end c.line_at-line.result.next =
    located _ _ _ c.line_at-line.ensures c.loop-at-test.true
    in
    let stops : c.line_at-line.result.end ≤ length c.args.message.now =
    let a = place.ends in let b = place.within in omega arith
    in
    let within : c.loop-at.at + c.next_step-step.result.width ≤ c.line_at-line.result.end =
    width-in _ _ _ _ _ _ _ _ _ _ _ _ c.loop-at.invariant _ c.line_at-line.ensures c.loop-at-test.true _ c.next_step-step.ensures
    in
    let w = within in let t = stops in omega arith

pub take_value-fault-requires : goal.take_value-fault-requires
take_value-fault-requires c =
    let place : Located c.args.message.now c.loop-at.at c.line_at-line.result.end c.line_at-line.result.next =
    located _ _ _ c.line_at-line.ensures c.loop-at-test.true
    in
    let stops : c.line_at-line.result.end ≤ length c.args.message.now =
    let a = place.ends in let b = place.within in omega arith
    in
    let within : c.loop-at.at + c.next_step-step.result.width ≤ c.line_at-line.result.end =
    width-in _ _ _ _ _ _ _ _ _ _ _ _ c.loop-at.invariant _ c.line_at-line.ensures c.loop-at-test.true _ c.next_step-step.ensures
    in
    (within, stops)

pub overflow_add-n : goal.overflow_add-n
overflow_add-n c =
    let place : Located c.args.message.now c.loop-at.at c.line_at-line.result.end c.line_at-line.result.next =
    located _ _ _ c.line_at-line.ensures c.loop-at-test.true
    in
    let k = c.loop-at.invariant in
    omega (arith, k.few, k.count, place.grows, place.within)

pub loop-at-smaller : goal.loop-at-smaller
loop-at-smaller c =
    let place : Located c.args.message.now c.loop-at.at c.line_at-line.result.end c.line_at-line.result.next =
    located _ _ _ c.line_at-line.ensures c.loop-at-test.true
    in
    omega (arith, place.grows, place.within)

pub loop-at-preserved : goal.loop-at-preserved
loop-at-preserved c =
    let t = c.take_value-fault.ensures in
    again _ _ _ _ _ _ _ _ _ _ _ _ c.loop-at.invariant _ c.line_at-line.ensures c.loop-at-test.true _ c.next_step-step.ensures c.if-number-ne0.false _ _ _ _ t.1 t.2 c.mark.ensures t.0

pub returns : goal.returns
returns c = over _ _ _ _ _ _ _ _ _ _ _ _ c.loop-at.invariant c.loop-at-test.false
