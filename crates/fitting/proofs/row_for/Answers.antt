use native.Mathlib.Omega.{arith}
use Rattle.fitting.specs.Fitting.{Fitted}
use Rattle.fitting.proofs.Glimpses.{onward-here, onward-more, edge-fits, field_fits}
use Rattle.fitting.proofs.row_for.Goals as goal

pub loop-row-init : goal.loop-row-init
loop-row-init c = (omega arith, onward-here _ _ _ _)

pub see-requires : goal.see-requires
see-requires c = (omega arith, omega arith)

pub returns-in-Edge : goal.returns-in-Edge
returns-in-Edge c =
    let a = c.args in
    edge-fits a.table.now a.here a.seen.now a.text.now c.loop-row.row c.loop-row.deep c.loop-row.unmarked c.loop-row.invariant.1 c.loop-row-test.true _ c.see.ensures _ _ c.in-Edge.is

pub returns-in-Field : goal.returns-in-Field
returns-in-Field c =
    let a = c.args in
    field_fits a.table.now a.here a.seen.now a.text.now c.loop-row.row c.loop-row.deep c.loop-row.unmarked c.loop-row.invariant.1 c.loop-row-test.true _ c.see.ensures _ _ c.in-Field.is

pub returns-in-Not : goal.returns-in-Not
unfolding Fitted
returns-in-Not c = tt

pub loop-row-preserved : goal.loop-row-preserved
loop-row-preserved c =
    let a = c.args in
    let m = onward-more a.table.now a.here a.seen.now a.text.now c.loop-row.row c.loop-row.deep c.loop-row.unmarked c.loop-row.invariant.1 c.loop-row-test.true _ c.see.ensures _ _ c.in-Further.is in
    (omega arith, m.1)

pub returns : goal.returns
unfolding Fitted
returns c = tt
