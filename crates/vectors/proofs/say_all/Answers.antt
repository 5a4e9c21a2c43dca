use Prim.Native.Nat.{◌-◌}
use native.Mathlib.Omega.{arith}
use Rattle.lines.proofs.Laws.{Located, located}
use Rattle.vectors.proofs.say_all.Goals as goal

pub next_name-next-requires : goal.next_name-next-requires
next_name-next-requires c =
    let place : Located c.args.input.now c.loop-at.at c.line_at-name.result.end c.line_at-name.result.next =
    located _ _ _ c.line_at-name.ensures c.loop-at-test.true
    in
    place.within

pub slice_bounds-say_name-count : goal.slice_bounds-say_name-count
slice_bounds-say_name-count c =
    let place : Located c.args.input.now c.loop-at.at c.line_at-name.result.end c.line_at-name.result.next =
    located _ _ _ c.line_at-name.ensures c.loop-at-test.true
    in
    place.starts

pub slice_bounds-say_name-start : goal.slice_bounds-say_name-start
slice_bounds-say_name-start c =
    let place : Located c.args.input.now c.loop-at.at c.line_at-name.result.end c.line_at-name.result.next =
    located _ _ _ c.line_at-name.ensures c.loop-at-test.true
    in
    place.starts

pub slice_bounds-say_name-end : goal.slice_bounds-say_name-end
slice_bounds-say_name-end c =
    let place : Located c.args.input.now c.loop-at.at c.line_at-name.result.end c.line_at-name.result.next =
    located _ _ _ c.line_at-name.ensures c.loop-at-test.true
    in
    let p = place in omega (arith, p.ends, p.within)

pub slice_bounds-read-count : goal.slice_bounds-read-count
slice_bounds-read-count c = c.next_name-next.ensures.0

pub slice_bounds-read-start : goal.slice_bounds-read-start
slice_bounds-read-start c = c.next_name-next.ensures.0

pub slice_bounds-read-end : goal.slice_bounds-read-end
slice_bounds-read-end c = c.next_name-next.ensures.1

pub loop-at-smaller : goal.loop-at-smaller
loop-at-smaller c =
    let place : Located c.args.input.now c.loop-at.at c.line_at-name.result.end c.line_at-name.result.next =
    located _ _ _ c.line_at-name.ensures c.loop-at-test.true
    in
    let p = place in omega (arith, p.grows, c.next_name-next.ensures.0, c.next_name-next.ensures.1)

pub loop-at-preserved : goal.loop-at-preserved
loop-at-preserved c = c.next_name-next.ensures.1
