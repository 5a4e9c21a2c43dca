use Prim.Native.Nat.{◌+◌, ◌-◌, ◌≤◌}
use native.Mathlib.Omega.{arith}
use Rattle.lines.proofs.Laws.{Located, located}
use Rattle.search.proofs.Lines.{begin, over, width-in, refusal, found-is, again}
use Rattle.search.proofs.find.Goals as goal

pub blocks-2-init : goal.blocks-2-init
blocks-2-init c = begin _ _ _ _ c.behind-at.ensures

pub loop-at-init : goal.loop-at-init
loop-at-init c = (c.blocks-2.invariant, omega arith, omega (arith, c.if-message-at.false))

pub blocks-2-smaller-in-loop-at : goal.blocks-2-smaller-in-loop-at
blocks-2-smaller-in-loop-at c = let a = c.loop-at.invariant.2 in omega (arith, c.loop-at-test.false)

pub blocks-2-preserved-in-loop-at : goal.blocks-2-preserved-in-loop-at
blocks-2-preserved-in-loop-at c = c.loop-at.invariant.0

pub turn_at-turn-requires : goal.turn_at-turn-requires
turn_at-turn-requires c = c.loop-at-test.true

pub overflow_add-value : goal.overflow_add-value
overflow_add-value c =
    let spot : Located c.args.message.now c.loop-at.at c.turn_at-turn.result.line.end c.turn_at-turn.result.line.next =
    located _ _ _ c.turn_at-turn.ensures.0 c.loop-at-test.true
    in
    let width : c.loop-at.at + c.turn_at-turn.result.step.width ≤ c.turn_at-turn.result.line.end =
    width-in _ _ _ _ _ _ c.loop-at.invariant.0 _ c.turn_at-turn.ensures.0 c.loop-at-test.true _ c.turn_at-turn.ensures.1
    in
    let p = spot in
    omega (arith, width, p.ends, p.within)

pub blocks-2-smaller : goal.blocks-2-smaller
blocks-2-smaller c =
    let spot : Located c.args.message.now c.loop-at.at c.turn_at-turn.result.line.end c.turn_at-turn.result.line.next =
    located _ _ _ c.turn_at-turn.ensures.0 c.loop-at-test.true
    in
    let p = spot in
    let i = c.loop-at.invariant.1 in
    omega (arith, p.grows, p.within)

pub blocks-2-preserved : goal.blocks-2-preserved
blocks-2-preserved c = again _ _ _ _ _ _ c.loop-at.invariant.0 _ c.turn_at-turn.ensures.0 c.loop-at-test.true _ c.turn_at-turn.ensures.1 c.if-turn-ne0.false (λ some. absurd (some c.if-slot-eq0.true)) _ c.turn_at-turn.ensures.2

pub rest_of-requires : goal.rest_of-requires
rest_of-requires c =
    let width : c.loop-at.at + c.turn_at-turn.result.step.width ≤ c.turn_at-turn.result.line.end =
    width-in _ _ _ _ _ _ c.loop-at.invariant.0 _ c.turn_at-turn.ensures.0 c.loop-at-test.true _ c.turn_at-turn.ensures.1
    in
    width

pub loop-at-smaller : goal.loop-at-smaller
loop-at-smaller c =
    let spot : Located c.args.message.now c.loop-at.at c.turn_at-turn.result.line.end c.turn_at-turn.result.line.next =
    located _ _ _ c.turn_at-turn.ensures.0 c.loop-at-test.true
    in
    let p = spot in omega (arith, p.grows, p.within)

pub loop-at-preserved : goal.loop-at-preserved
loop-at-preserved c =
    let spot : Located c.args.message.now c.loop-at.at c.turn_at-turn.result.line.end c.turn_at-turn.result.line.next =
    located _ _ _ c.turn_at-turn.ensures.0 c.loop-at-test.true
    in
    let p = spot in
    let i = c.loop-at.invariant in
    (again _ _ _ _ _ _ c.loop-at.invariant.0 _ c.turn_at-turn.ensures.0 c.loop-at-test.true _ c.turn_at-turn.ensures.1 c.if-turn-ne0.false (λ some. c.if-slot-wanted.false) _ c.turn_at-turn.ensures.2, omega (arith, p.grows, i.1), i.2)

pub returns-then-message-at : goal.returns-then-message-at
returns-then-message-at c = over _ _ _ _ _ _ c.blocks-2.invariant _ c.if-message-at.true

pub returns-then-turn-ne0 : goal.returns-then-turn-ne0
returns-then-turn-ne0 c = refusal _ _ _ _ _ _ c.loop-at.invariant.0 _ c.turn_at-turn.ensures.0 c.loop-at-test.true _ c.turn_at-turn.ensures.1 _ c.if-turn-ne0.true

pub returns-then-slot-wanted : goal.returns-then-slot-wanted
returns-then-slot-wanted c = found-is _ _ _ _ _ _ c.loop-at.invariant.0 _ c.turn_at-turn.ensures.0 c.loop-at-test.true _ c.turn_at-turn.ensures.1 c.if-turn-ne0.false _ c.if-slot-eq0.false c.if-slot-wanted.true _ c.rest_of.ensures
