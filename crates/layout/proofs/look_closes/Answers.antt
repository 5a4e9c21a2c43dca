-- `layout::look_closes` meets its contract. Assumes nothing.
use Rattle.layout.proofs.look_closes.Goals as goal

pub returns-then-is_line : goal.returns-then-is_line
returns-then-is_line c = rw (← c.is_line.ensures, c.if-is_line.true) c.fit.ensures

pub returns-else-is_line : goal.returns-else-is_line
returns-else-is_line c = rw (← c.is_line.ensures, c.if-is_line.false) (rw c.refuse.ensures)
