-- `forms::narrative::good_period` meets its contract. Assumes nothing.
use Rattle.text.specs.Classes.{in_class}
use Rattle.forms.specs.Narrative.{good_period}
use Rattle.forms.proofs.narrative.good_period.Goals as goal

pub returns-then-has_period : goal.returns-then-has_period
unfolding good_period in_class
returns-then-has_period c = rw (← c.has_period.ensures, c.if-has_period.true, ← c.period_in.ensures) c.in_class.ensures

pub returns-else-has_period : goal.returns-else-has_period
unfolding good_period
returns-else-has_period c = rw (← c.has_period.ensures, c.if-has_period.false)
