-- `glance::told` meets its contract. Assumes nothing.
use mathlib.Core.Path.{refl, sym, ◌∙◌}
use mathlib.Core.Bool.{true≢false}
use Rattle.glance.specs.Steps.{Ends, Told}
use Rattle.glance.proofs.told.Goals as goal

pub returns-in_default : goal.returns-in_default
unfolding Told
returns-in_default c = λ t. absurd (true≢false (sym t ∙ c.nothing.ensures))

pub returns : goal.returns
unfolding Told Ends
returns c = λ t. (refl, refl, refl, rw c.in-Some.is at c.behind.ensures)
