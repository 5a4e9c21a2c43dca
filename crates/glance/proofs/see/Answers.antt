-- `glance::see` meets its contract. Assumes nothing.
use mathlib.Core.Path.{sym, ◌∙◌}
use mathlib.Core.Bool.{true≢false}
use Rattle.glance.proofs.Sights.{edge-sees, field-sees}
use Rattle.glance.specs.Steps.{Sees}
use Rattle.glance.proofs.see.Goals as goal

pub returns-in-Some-Edge : goal.returns-in-Some-Edge
returns-in-Some-Edge c = edge-sees _ _ _ _ _ _ _ _ (rw c.in-Some-Edge.field-0-is at c.in-Some-Edge.ensures) c.told.ensures

pub returns-in-Some-Field : goal.returns-in-Some-Field
returns-in-Some-Field c = field-sees _ _ _ _ _ _ _ _ (rw c.in-Some-Field.field-0-is at c.in-Some-Field.ensures) c.told_field.ensures

pub returns-in-None : goal.returns-in-None
unfolding Sees
returns-in-None c = λ t. absurd (true≢false (sym t ∙ c.nothing.ensures))
