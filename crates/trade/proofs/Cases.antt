-- Each text of the table gets what stands beside it, by computation.
-- Assumes nothing.
use mathlib.Core.Path.{refl}
use Rattle.text.specs.Bytes.{bytes, begins}
use Rattle.forms.specs.Narrative.{has_period, period_in}
use Rattle.trade.specs.Narrative.{period_of}
use Rattle.trade.specs.Cases.{periods, Answered}

pub answered : Answered
unfolding periods bytes begins has_period period_in period_of
answered = refl
