-- `layout::look_at` meets its contract. Assumes nothing.
use borrow.Author.Tests.{eq-eqb, ne_eqb}
use Rattle.layout.specs.Layout.{look}
use Rattle.layout.proofs.look_at.Goals as goal

pub returns-then-way-eq0 : goal.returns-then-way-eq0
unfolding look
returns-then-way-eq0 c = rw (eq-eqb _ _ c.if-way-eq0.true) c.look_against.ensures

pub returns-else-way-eq0 : goal.returns-else-way-eq0
unfolding look
returns-else-way-eq0 c = rw (ne_eqb _ _ c.if-way-eq0.false) c.look_beneath.ensures
