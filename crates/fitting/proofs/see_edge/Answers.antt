-- `fitting::see_edge` meets its contract. Assumes nothing.
use Rattle.fitting.proofs.see_edge.Goals as goal

pub returns-then-is_edge : goal.returns-then-is_edge
returns-then-is_edge c = rw (← c.is_edge.ensures, c.if-is_edge.true)

pub returns-else-is_edge : goal.returns-else-is_edge
returns-else-is_edge c = rw (← c.is_edge.ensures, c.if-is_edge.false) c.unless.ensures
