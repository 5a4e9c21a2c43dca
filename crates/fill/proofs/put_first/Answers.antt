-- `fill::put_first` meets its contract. Assumes nothing.
use borrow.Author.Tests.{ne_eqb}
use Rattle.layout.specs.declared.Kind.{Kind}
use Rattle.fill.proofs.Rows.{apart}
use Rattle.fill.proofs.Runs.{none-run}
use Rattle.fill.proofs.put_first.Goals as goal

pub returns-in-Mark : goal.returns-in-Mark
returns-in-Mark c = rw (c.in-Mark.is, ← c.row_text.ensures) c.put_edge.ensures

pub returns-in_default : goal.returns-in_default
returns-in_default c = rw (ne_eqb _ 8 (apart _ Kind.Mark c.in_default.not-Mark)) (none-run _ _)
