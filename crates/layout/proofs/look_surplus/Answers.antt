-- `layout::look_surplus` meets its contract. Assumes nothing.
use Rattle.bars.specs.Bars.{stops, bar_number}
use Rattle.layout.specs.Layout.{against}
use Rattle.layout.proofs.look_surplus.Goals as goal

pub returns-then-is_line : goal.returns-then-is_line
unfolding against stops bar_number
returns-then-is_line c = rw (← c.is_line.ensures, c.if-is_line.true, c.refuse.ensures)

pub returns-else-is_line : goal.returns-else-is_line
unfolding against stops
returns-else-is_line c = rw (← c.is_line.ensures, c.if-is_line.false)
