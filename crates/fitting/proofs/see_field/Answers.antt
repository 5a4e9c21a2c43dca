-- `fitting::see_field` meets its contract. Assumes nothing.
use Rattle.fitting.specs.Fitting.{glimpse}
use Rattle.fitting.proofs.see_field.Goals as goal

pub returns-then-begins_with : goal.returns-then-begins_with
unfolding glimpse
returns-then-begins_with c = rw (← c.begins_with.ensures, c.if-begins_with.true) c.take.ensures

pub returns-else-begins_with : goal.returns-else-begins_with
unfolding glimpse
returns-else-begins_with c = rw (← c.begins_with.ensures, c.if-begins_with.false) c.unless.ensures
