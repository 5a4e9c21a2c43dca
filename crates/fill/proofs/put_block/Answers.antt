-- `fill::put_block` meets its contract. Assumes nothing.
use Rattle.fill.specs.Filling.{Lent, lent, behind_at, parts_at}
use Rattle.fill.proofs.Rows.{edge_on, edge-past}
use Rattle.fill.proofs.put_block.Goals as goal

pub returns-then-not-is_open : goal.returns-then-not-is_open
returns-then-not-is_open c =
    let a = c.args in
    let l : Lent = lent a.slots.now a.optional.now a.text.now a.starts.now a.ends.now in
    edge-past (behind_at l) (parts_at l) a.rows.now a.row a.here.many a.buf.now a.here.at c.requires.0 c.requires.1 c.requires.2 _
    (rw (← c.of-kind.ensures) c.is_open.ensures) (c.if-not-is_open.true) _ (rw (← c.of-kind.ensures) c.deeper.ensures)

pub returns : goal.returns
returns c =
    let a = c.args in
    let l : Lent = lent a.slots.now a.optional.now a.text.now a.starts.now a.ends.now in
    edge_on (behind_at l) (parts_at l) a.rows.now a.row a.here.many a.buf.now a.here.at c.requires.0 c.requires.1 c.requires.2 _
    (rw (← c.of-kind.ensures) c.is_open.ensures) (c.if-not-is_open.false) _ c.row_text.ensures _ _ c.put_edge-behind.ensures
