-- `lines::line_at` meets its contract. Assumes nothing.
use native.Mathlib.Omega.{arith}
use Rattle.lines.proofs.Scans.{line-none, raw-length, line-short, line-more, line-last}
use Rattle.lines.proofs.line_at.Goals as goal

pub returns-then-message-at : goal.returns-then-message-at
returns-then-message-at c = line-none _ _ c.if-message-at.true

pub slice_bounds-without_cr-end : goal.slice_bounds-without_cr-end
slice_bounds-without_cr-end c = raw-length _ _ c.find-n.ensures

pub overflow_add-end : goal.overflow_add-end
overflow_add-end c =
    let a = c.args in
    omega (arith, line-short a.message.now a.at _ _ c.find-n.ensures c.without_cr.ensures)

pub returns-then-n-rest : goal.returns-then-n-rest
returns-then-n-rest c = line-more _ _ _ _ c.find-n.ensures c.without_cr.ensures c.if-n-rest.true

pub overflow_add-result-2 : goal.overflow_add-result-2
overflow_add-result-2 c =
    let a = c.args in
    omega (arith, line-short a.message.now a.at _ _ c.find-n.ensures c.without_cr.ensures)

pub returns : goal.returns
returns c = line-last _ _ _ _ c.find-n.ensures c.without_cr.ensures c.if-n-rest.false
