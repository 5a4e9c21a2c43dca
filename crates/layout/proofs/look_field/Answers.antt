-- `layout::look_field` meets its contract. Assumes nothing.
use Rattle.layout.specs.Layout.{against}
use Rattle.layout.proofs.look_field.Goals as goal

pub returns-then-begins_with : goal.returns-then-begins_with
unfolding against
returns-then-begins_with c = rw (← c.begins_with.ensures, c.if-begins_with.true) c.fit.ensures

pub returns-else-begins_with : goal.returns-else-begins_with
unfolding against
returns-else-begins_with c = rw (← c.begins_with.ensures, c.if-begins_with.false) c.skip.ensures
