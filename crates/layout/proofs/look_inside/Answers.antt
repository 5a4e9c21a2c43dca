-- `layout::look_inside` meets its contract. Assumes nothing.
use Rattle.layout.proofs.look_inside.Goals as goal

pub returns-then-begins_bare : goal.returns-then-begins_bare
returns-then-begins_bare c = rw (← c.begins_bare.ensures, c.if-begins_bare.true, c.refuse.ensures)

pub returns-else-begins_bare : goal.returns-else-begins_bare
returns-else-begins_bare c = rw (← c.begins_bare.ensures, c.if-begins_bare.false)
