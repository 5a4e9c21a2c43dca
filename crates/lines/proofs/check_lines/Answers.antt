use Prim.Native.Nat.{◌-◌}
use mathlib.Core.Path.{refl, sym, ◌∙◌}
use native.Mathlib.Omega.{arith}
use lib.ListN.{length, take, drop}
use lib.Seq.{length-take-le}
use Rattle.text.proofs.Laws.{rest_of}
use Rattle.lines.specs.Verdicts.{refused}
use Rattle.lines.proofs.Scans.{left-all, left-none, Turn, turn}
use Rattle.lines.proofs.check_lines.Goals as goal

pub loop-at-init : goal.loop-at-init
loop-at-init c = (omega arith, omega arith, refl)

pub slice_bounds-ending-count : goal.slice_bounds-ending-count
slice_bounds-ending-count c = c.text_length-n.ensures.0

pub slice_bounds-ending-start : goal.slice_bounds-ending-start
slice_bounds-ending-start c = let h = c.text_length-n.ensures.0 in omega arith

pub slice_bounds-ending-end : goal.slice_bounds-ending-end
slice_bounds-ending-end c = let h = c.text_length-n.ensures.0 in omega arith

pub returns-in_default : goal.returns-in_default
unfolding refused
returns-in_default c =
    let m = c.args.message.now in
    let l = c.loop-at in
    let n = c.text_length-n.result in
    let here : Turn m l.line l.end l.at n c.ending.result (take n (take (length m - l.at) (drop l.at m))) =
    turn m _ _ _ c.loop-at-test.true _ (rest_of _ _ m refl) n c.text_length-n.ensures _ (rest_of n _ _ refl) _ c.ending.ensures
    in
    here.stops c.in_default.is ∙ l.invariant.2 ∙ left-all _ c.requires

pub slice_bounds-first_end-end : goal.slice_bounds-first_end-end
slice_bounds-first_end-end c = let h = c.text_length-n.ensures.0 in sym (length-take-le _ _ h)

-- the turn of a line that has its ending
turn-some : (c : goal.After-first_end-end)
    → Turn c.args.message.now c.loop-at.line c.loop-at.end c.loop-at.at c.text_length-n.result c.ending.result
    (take c.text_length-n.result (take (length c.args.message.now - c.loop-at.at) (drop c.loop-at.at c.args.message.now)))
turn-some c = turn _ _ _ _ c.loop-at-test.true _ (rest_of _ _ c.args.message.now refl) _ c.text_length-n.ensures _ (rest_of c.text_length-n.result _ _ refl) _ c.ending.ensures

pub overflow_add-at : goal.overflow_add-at
overflow_add-at c =
    let g = (turn-some c).grows _ c.in-Some.is in omega arith

pub overflow_add-at-in-loop-at : goal.overflow_add-at-in-loop-at
overflow_add-at-in-loop-at c =
    let g = (turn-some c).grows _ c.in-Some.is in omega arith

pub loop-at-smaller : goal.loop-at-smaller
loop-at-smaller c =
    let g = (turn-some c).grows _ c.in-Some.is in omega arith

pub loop-at-preserved : goal.loop-at-preserved
loop-at-preserved c =
    let here = turn-some c in
    let g = here.grows _ c.in-Some.is in
    (g.1, omega arith, here.goes_on _ c.in-Some.is _ c.first_end-end.ensures ∙ c.loop-at.invariant.2)

pub check_end-requires : goal.check_end-requires
check_end-requires c = c.requires

pub returns : goal.returns
unfolding refused
returns c = c.check_end.ensures ∙ left-none _ _ _ _ c.loop-at-test.false ∙ c.loop-at.invariant.2 ∙ left-all _ c.requires
