-- `fill::put_held` meets its contract. Assumes nothing.
use Rattle.fill.specs.Filling.{Lent, lent, behind_at, parts_at}
use Rattle.fill.proofs.Rows.{held_on, held-past}
use Rattle.fill.proofs.put_held.Goals as goal

pub returns-then-not-has_line : goal.returns-then-not-has_line
returns-then-not-has_line c =
    let a = c.args in
    let l : Lent = lent a.slots.now a.optional.now a.text.now a.starts.now a.ends.now in
    held-past (behind_at l) (parts_at l) a.rows.now a.row a.here.many a.buf.now a.here.at c.requires.0 c.requires.1 c.front-front.result.now c.value_of-value.result.now
    (rw (← c.value_of-value.ensures, ← c.front-front.ensures)) _ (rw (← c.of-kind.ensures) c.has_line.ensures) (c.if-not-has_line.true) _ (rw (← c.of-kind.ensures) c.deeper.ensures)

pub returns : goal.returns
returns c =
    let a = c.args in
    let l : Lent = lent a.slots.now a.optional.now a.text.now a.starts.now a.ends.now in
    held_on (behind_at l) (parts_at l) a.rows.now a.row a.here.many a.buf.now a.here.at c.requires.0 c.requires.1 c.front-front.result.now c.value_of-value.result.now
    (rw (← c.value_of-value.ensures, ← c.front-front.ensures)) _ (rw (← c.of-kind.ensures) c.has_line.ensures) (c.if-not-has_line.false)
    (rw (← c.value_of-value.ensures, ← c.front-front.ensures)) _ _ (rw (← c.of-kind.ensures) c.put_first-from.ensures) _ c.row_text.ensures _ _ c.put_line-behind.ensures
