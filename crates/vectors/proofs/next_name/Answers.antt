use Prim.Native.Nat.{◌-◌}
use native.Mathlib.Omega.{arith}
use Rattle.lines.proofs.Laws.{Located, located}
use Rattle.vectors.proofs.next_name.Goals as goal

pub loop-at-smaller : goal.loop-at-smaller
loop-at-smaller c =
    let place : Located c.args.input.now c.loop-at.at c.line_at-line.result.end c.line_at-line.result.next =
    located _ _ _ c.line_at-line.ensures c.loop-at-test.true
    in
    let p = place in omega (arith, p.grows, p.within)

pub loop-at-preserved : goal.loop-at-preserved
loop-at-preserved c =
    let place : Located c.args.input.now c.loop-at.at c.line_at-line.result.end c.line_at-line.result.next =
    located _ _ _ c.line_at-line.ensures c.loop-at-test.true
    in
    let p = place in let i = c.loop-at.invariant in (omega (arith, p.grows, i.0), p.within)
