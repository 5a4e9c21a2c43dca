use native.Mathlib.Omega.{arith}
use Rattle.std.proofs.lemmas.Result.{err_from_is_err_and}
use Rattle.lines.proofs.Laws.{located}
use Rattle.blocks.proofs.Ways.{block-ninth, block-items, all_done, wrong-line, end-top, end-inside, field-more, close_other, close-same, open-stop, open_more}
use Rattle.blocks.proofs.+block_items.Goals as goal

pub block-returns-then-depth-ge8 : goal.block-returns-then-depth-ge8
block-returns-then-depth-ge8 t c = block-ninth _ _ _ _ _ c.requires.0 c.requires.1 c.if-depth-ge8.true

pub block-returns : goal.block-returns
block-returns t c =
    block-items _ _ _ _ _ c.requires.0 c.requires.1 _ c.if-depth-ge8.false c.items.ensures

pub items-slice_bounds-text-count : goal.items-slice_bounds-text-count
items-slice_bounds-text-count t c =
    let h = located c.args.message.now c.loop-at.at c.line_at-here.result c.line_at-here.ensures c.loop-at-test.true in
    h.starts

pub items-slice_bounds-text-start : goal.items-slice_bounds-text-start
items-slice_bounds-text-start t c =
    let h = located c.args.message.now c.loop-at.at c.line_at-here.result c.line_at-here.ensures c.loop-at-test.true in
    omega arith

pub items-slice_bounds-text-end : goal.items-slice_bounds-text-end
items-slice_bounds-text-end t c =
    let h = located c.args.message.now c.loop-at.at c.line_at-here.result c.line_at-here.ensures c.loop-at-test.true in
    omega arith

pub items-returns-then-depth-ne0 : goal.items-returns-then-depth-ne0
items-returns-then-depth-ne0 t c =
    let h = located c.args.message.now c.loop-at.at c.line_at-here.result c.line_at-here.ensures c.loop-at-test.true in
    end-inside _ _ _ _ _ _ _ _ _ c.loop-at.invariant h _ c.role_of.ensures c.in-End.is c.if-depth-ne0.true

pub items-loop-at-preserved-in-End : goal.items-loop-at-preserved-in-End
items-loop-at-preserved-in-End t c =
    let h = located c.args.message.now c.loop-at.at c.line_at-here.result c.line_at-here.ensures c.loop-at-test.true in
    end-top _ _ _ _ _ _ _ _ _ c.loop-at.invariant h _ c.role_of.ensures c.in-End.is c.if-depth-ne0.false

pub items-returns-in_err-inner-in-Opens : goal.items-returns-in_err-inner-in-Opens
items-returns-in_err-inner-in-Opens t c =
    let h = located c.args.message.now c.loop-at.at c.line_at-here.result c.line_at-here.ensures c.loop-at-test.true in
    let same = err_from_is_err_and c.from_residual.result c.from_residual.ensures.1 in
    rw (same.1, same.2) (open-stop _ _ _ _ _ _ _ _ _ c.loop-at.invariant h _ c.role_of.ensures c.in-Opens.is _ c.in_err-inner-in-Opens.ensures)

pub items-loop-at-preserved-in-Opens : goal.items-loop-at-preserved-in-Opens
items-loop-at-preserved-in-Opens t c =
    let h = located c.args.message.now c.loop-at.at c.line_at-here.result c.line_at-here.ensures c.loop-at-test.true in
    open_more _ _ _ _ _ _ _ _ _ c.loop-at.invariant h _ c.role_of.ensures c.in-Opens.is _ c.in_ok-inner-in-Opens.ensures

pub items-returns-then-not-is_innermost : goal.items-returns-then-not-is_innermost
items-returns-then-not-is_innermost t c =
    let h = located c.args.message.now c.loop-at.at c.line_at-here.result c.line_at-here.ensures c.loop-at-test.true in
    close_other _ _ _ _ _ _ _ _ _ c.loop-at.invariant h _ c.role_of.ensures c.in-Closes.is _ c.is_innermost.ensures c.if-not-is_innermost.true

pub items-returns-in-Closes : goal.items-returns-in-Closes
items-returns-in-Closes t c =
    let h = located c.args.message.now c.loop-at.at c.line_at-here.result c.line_at-here.ensures c.loop-at-test.true in
    close-same _ _ _ _ _ _ _ _ _ c.loop-at.invariant h _ c.role_of.ensures c.in-Closes.is _ c.is_innermost.ensures c.if-not-is_innermost.false

pub items-loop-at-preserved : goal.items-loop-at-preserved
items-loop-at-preserved t c =
    let h = located c.args.message.now c.loop-at.at c.line_at-here.result c.line_at-here.ensures c.loop-at-test.true in
    field-more _ _ _ _ _ _ _ _ _ c.loop-at.invariant h _ c.role_of.ensures c.in-Field.is

pub items-returns-in-Wrong : goal.items-returns-in-Wrong
items-returns-in-Wrong t c =
    let h = located c.args.message.now c.loop-at.at c.line_at-here.result c.line_at-here.ensures c.loop-at-test.true in
    wrong-line _ _ _ _ _ _ _ _ _ c.loop-at.invariant h _ c.role_of.ensures c.in-Wrong.is

pub items-returns : goal.items-returns
items-returns t c = all_done _ _ _ _ _ _ _ c.loop-at.invariant c.loop-at-test.false
