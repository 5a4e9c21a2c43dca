-- `search::turn_at` meets its contract: the line stands within the message. Assumes nothing.
use native.Mathlib.Omega.{arith}
use Rattle.lines.proofs.Laws.{Located, located}
use Rattle.search.proofs.turn_at.Goals as goal

pub slice_bounds-next_step-count : goal.slice_bounds-next_step-count
slice_bounds-next_step-count c =
    let spot : Located c.args.message.now c.args.at c.line_at-line.result.end c.line_at-line.result.next =
    located _ _ _ c.line_at-line.ensures c.requires
    in
    spot.starts

pub slice_bounds-next_step-start : goal.slice_bounds-next_step-start
slice_bounds-next_step-start c =
    let spot : Located c.args.message.now c.args.at c.line_at-line.result.end c.line_at-line.result.next =
    located _ _ _ c.line_at-line.ensures c.requires
    in
    spot.starts

pub slice_bounds-next_step-end : goal.slice_bounds-next_step-end
slice_bounds-next_step-end c =
    let spot : Located c.args.message.now c.args.at c.line_at-line.result.end c.line_at-line.result.next =
    located _ _ _ c.line_at-line.ensures c.requires
    in
    let a = spot.ends in let b = spot.within in omega arith
