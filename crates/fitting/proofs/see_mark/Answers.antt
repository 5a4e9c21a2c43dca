-- `fitting::see_mark` meets its contract. Assumes nothing.
use Rattle.fitting.specs.Fitting.{glimpse}
use Rattle.fitting.proofs.see_mark.Goals as goal

pub returns-then-is_seen : goal.returns-then-is_seen
unfolding glimpse
returns-then-is_seen c = rw (← c.begins_with.ensures, c.if-begins_with.true, ← c.is_seen.ensures, c.if-is_seen.true)

pub returns-else-is_seen : goal.returns-else-is_seen
unfolding glimpse
returns-else-is_seen c = rw (← c.begins_with.ensures, c.if-begins_with.true, ← c.is_seen.ensures, c.if-is_seen.false) c.take.ensures

pub returns-else-begins_with : goal.returns-else-begins_with
unfolding glimpse
returns-else-begins_with c = rw (← c.begins_with.ensures, c.if-begins_with.false)
