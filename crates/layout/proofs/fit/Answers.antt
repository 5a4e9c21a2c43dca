-- `layout::fit` meets its contract. Assumes nothing.
use Rattle.layout.specs.Layout.{fits_or9}
use Rattle.layout.proofs.fit.Goals as goal

pub returns-then-way : goal.returns-then-way
unfolding fits_or9
returns-then-way c = rw (c.if-way.true, c.refuse.ensures)

pub returns-else-way : goal.returns-else-way
unfolding fits_or9
returns-else-way c = rw c.if-way.false
