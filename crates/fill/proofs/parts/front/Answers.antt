-- `fill::parts::front` meets its contract. Assumes nothing.
use mathlib.Core.Path.{sym, ◌∙◌}
use Rattle.fill.specs.Filling.{fixed_in}
use Rattle.fill.proofs.parts.front.Goals as goal

pub returns-then-is_absent : goal.returns-then-is_absent
unfolding fixed_in
returns-then-is_absent c = rw (sym c.is_absent.ensures ∙ c.if-is_absent.true)

pub returns : goal.returns
unfolding fixed_in
returns c = rw (sym c.is_absent.ensures ∙ c.if-is_absent.false) c.fixed_text.ensures
