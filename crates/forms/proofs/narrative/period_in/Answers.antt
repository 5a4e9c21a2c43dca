-- `forms::narrative::period_in` meets its contract. Assumes nothing.
use Rattle.forms.proofs.Parts.{period-at, no-period}
use Rattle.forms.proofs.narrative.period_in.Goals as goal

pub returns-then-value-lt15 : goal.returns-then-value-lt15
returns-then-value-lt15 c = no-period _ c.if-value-lt15.true

pub returns-else-value-lt15 : goal.returns-else-value-lt15
returns-else-value-lt15 c = period-at _
