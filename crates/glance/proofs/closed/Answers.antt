-- `glance::closed` meets its contract. Assumes nothing.
use mathlib.Core.Path.{refl, sym, ◌∙◌}
use Rattle.text.proofs.Laws.{same-eq}
use Rattle.text.specs.Bytes.{bytes}
use Rattle.glance.specs.Steps.{Closes}
use Rattle.glance.proofs.closed.Goals as goal

pub returns-then-at-gt-LONGEST : goal.returns-then-at-gt-LONGEST
unfolding Closes
returns-then-at-gt-LONGEST c = tt

pub returns-then-not-equals : goal.returns-then-not-equals
unfolding Closes
returns-then-not-equals c = tt

pub returns : goal.returns
unfolding Closes bytes
returns c = (refl, c.if-at-gt-LONGEST.false, sym (same-eq _ _ (sym c.equals.ensures ∙ c.if-not-equals.false)))
