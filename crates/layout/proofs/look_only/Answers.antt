-- `layout::look_only` meets its contract. Assumes nothing.
use Rattle.layout.proofs.look_only.Goals as goal

pub returns-then-strays : goal.returns-then-strays
returns-then-strays c = rw (← c.strays.ensures, c.if-strays.true, c.refuse.ensures)

pub returns-else-strays : goal.returns-else-strays
returns-else-strays c = rw (← c.strays.ensures, c.if-strays.false)
