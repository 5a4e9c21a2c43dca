-- `forms::narrative::behind_period` meets its contract. Assumes nothing.
use Rattle.forms.specs.Narrative.{behind_period}
use Rattle.forms.proofs.narrative.behind_period.Goals as goal

pub returns-then-has_period : goal.returns-then-has_period
unfolding behind_period
returns-then-has_period c = rw (← c.has_period.ensures, c.if-has_period.true) c.from.ensures

pub returns-else-has_period : goal.returns-else-has_period
unfolding behind_period
returns-else-has_period c = rw (← c.has_period.ensures, c.if-has_period.false) c.from-else-has_period.ensures
