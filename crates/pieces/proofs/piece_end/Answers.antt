use native.Mathlib.Omega.{arith}
use Rattle.text.specs.Bytes.{bytes}
use Rattle.lines.proofs.Laws.{located}
use Rattle.pieces.proofs.Lines.{piece-stop, piece-more, piece-none}
use Rattle.pieces.proofs.piece_end.Goals as goal

pub slice_bounds-equals-count : goal.slice_bounds-equals-count
slice_bounds-equals-count c =
    let here = located c.args.batch.now c.loop-at.at c.line_at-line.result c.line_at-line.ensures c.loop-at-test.true in
    here.starts

pub slice_bounds-equals-start : goal.slice_bounds-equals-start
slice_bounds-equals-start c =
    let here = located c.args.batch.now c.loop-at.at c.line_at-line.result c.line_at-line.ensures c.loop-at-test.true in
    omega arith

pub slice_bounds-equals-end : goal.slice_bounds-equals-end
slice_bounds-equals-end c =
    let here = located c.args.batch.now c.loop-at.at c.line_at-line.result c.line_at-line.ensures c.loop-at-test.true in
    omega arith

pub returns-then-equals : goal.returns-then-equals
unfolding bytes
returns-then-equals c = piece-stop _ _ _ c.line_at-line.ensures c.loop-at-test.true _ c.loop-at.invariant _ c.equals.ensures c.if-equals.true

pub loop-at-preserved : goal.loop-at-preserved
unfolding bytes
loop-at-preserved c = piece-more _ _ _ c.line_at-line.ensures c.loop-at-test.true _ c.loop-at.invariant _ c.equals.ensures c.if-equals.false

pub returns : goal.returns
returns c = piece-none _ _ _ c.loop-at.invariant c.loop-at-test.false
