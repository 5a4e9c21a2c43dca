use mathlib.Core.Path.{refl, sym, ◌∙◌}
use Rattle.text.specs.Classes.{all_in}
use Rattle.measure.proofs.Laws.{front-more}
use Rattle.measure.proofs.front.Goals as goal

pub loop-i-init : goal.loop-i-init
unfolding all_in
loop-i-init c = refl

pub loop-i-preserved : goal.loop-i-preserved
loop-i-preserved c = front-more _ _ _ c.loop-i-test.true c.loop-i.invariant (sym c.in_class.ensures ∙ c.if-not-in_class.false)
