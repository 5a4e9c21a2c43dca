use Rattle.fill.specs.Filling.{Lent, lent, behind_at, parts_at, filling}
use Rattle.fill.proofs.Rows.{rows-begun, rows_more, rows-done}
use Rattle.fill.proofs.put_rows.Goals as goal

pub loop-row-init : goal.loop-row-init
loop-row-init c = rows-begun _ _ _ _ _

pub loop-row-preserved : goal.loop-row-preserved
loop-row-preserved c =
    let a = c.args in
    let v : Lent = lent a.slots.now a.optional.now a.text.now a.starts.now a.ends.now in
    rows_more (behind_at v) (parts_at v) a.rows.now a.buf.now a.at _ _ _ _ _ c.loop-row.invariant c.loop-row-test.true _ _ _ _
    c.put_next-here.ensures

pub returns : goal.returns
unfolding filling
returns c =
    let a = c.args in
    let v : Lent = lent a.slots.now a.optional.now a.text.now a.starts.now a.ends.now in
    rows-done (behind_at v) (parts_at v) a.rows.now a.buf.now a.at _ _ _ _ _ c.loop-row.invariant c.loop-row-test.false
