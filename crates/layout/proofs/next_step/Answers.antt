use mathlib.Core.Path.{refl, ◌∙◌}
use native.Mathlib.Omega.{arith}
use Rattle.layout.specs.Layout.{step_of}
use Rattle.layout.proofs.Rows.{scan-none, scan-stop, scan-more}
use Rattle.layout.proofs.next_step.Goals as goal

pub loop-row-init : goal.loop-row-init
unfolding step_of
loop-row-init c = (refl, omega arith, refl)

pub look_at-requires : goal.look_at-requires
look_at-requires c = (omega arith, omega arith)

pub returns-in-Decided : goal.returns-in-Decided
returns-in-Decided c =
    let a = c.args in
    scan-stop a.here a.seen.now a.line.now a.table.now c.loop-row.row c.loop-row.way.deep c.loop-row.way.unmarked c.loop-row.way.passed c.loop-row.invariant.2 c.loop-row-test.true _ (rw c.loop-row.invariant.0 at c.look_at.ensures) _ c.in-Decided.is

pub loop-row-preserved : goal.loop-row-preserved
loop-row-preserved c =
    let a = c.args in
    let m = scan-more a.here a.seen.now a.line.now a.table.now c.loop-row.row c.loop-row.way.deep c.loop-row.way.unmarked c.loop-row.way.passed c.loop-row.invariant.2 c.loop-row-test.true _ (rw c.loop-row.invariant.0 at c.look_at.ensures) _ _ _ c.in-Further.is in
    (refl, omega arith, m.1)

pub returns : goal.returns
returns c =
    let a = c.args in
    c.refuse.ensures ∙ scan-none a.here a.seen.now a.line.now a.table.now c.loop-row.row c.loop-row.way.deep c.loop-row.way.unmarked c.loop-row.way.passed c.loop-row.invariant.2 c.loop-row-test.false
