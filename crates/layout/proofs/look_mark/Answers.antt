-- `layout::look_mark` meets its contract. Assumes nothing.
use Rattle.layout.proofs.look_mark.Goals as goal

pub returns-then-again : goal.returns-then-again
returns-then-again c = rw (← c.begins_with.ensures, c.if-begins_with.true, c.if-again.true, c.refuse.ensures)

pub returns-else-again : goal.returns-else-again
returns-else-again c = rw (← c.begins_with.ensures, c.if-begins_with.true, c.if-again.false) c.fit.ensures

pub returns-else-begins_with : goal.returns-else-begins_with
returns-else-begins_with c = rw (← c.begins_with.ensures, c.if-begins_with.false)
