-- `fill::put_rows` meets its contract. Assumes nothing.
use Rattle.fill.specs.Filling.{lent, behind_at, parts_at}
use Rattle.fill.proofs.Rows.{Same}
use Rattle.fill.proofs.put_rows.Given as goal

abbrev pub invariant-loop-row : goal.invariant-loop-row
invariant-loop-row l = Same (behind_at (lent l.slots l.optional l.text l.starts l.ends)) (parts_at (lent l.slots l.optional l.text l.starts l.ends)) l.rows l.initial.buf l.at l.row l.here.off l.here.many l.buf l.here.at
