-- `layout::look_opens` meets its contract. Assumes nothing.
use Rattle.layout.specs.Layout.{against}
use Rattle.layout.proofs.look_opens.Goals as goal

pub returns-then-is_line : goal.returns-then-is_line
unfolding against
returns-then-is_line c = rw (← c.is_line.ensures, c.if-is_line.true) c.fit.ensures

pub returns-else-is_line : goal.returns-else-is_line
unfolding against
returns-else-is_line c = rw (← c.is_line.ensures, c.if-is_line.false) c.skip.ensures
