-- `fitting::see` meets its contract. Assumes nothing.
use borrow.Author.Tests.{eq-eqb, ne_eqb}
use Rattle.fitting.specs.Fitting.{glimpse_at}
use Rattle.fitting.proofs.see.Goals as goal

pub returns-then-deep-eq0 : goal.returns-then-deep-eq0
unfolding glimpse_at
returns-then-deep-eq0 c = rw (eq-eqb _ _ c.if-deep-eq0.true) c.see_row.ensures

pub returns-else-deep-eq0 : goal.returns-else-deep-eq0
unfolding glimpse_at
returns-else-deep-eq0 c = rw (ne_eqb _ _ c.if-deep-eq0.false) c.see_beneath.ensures
