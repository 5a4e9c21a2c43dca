-- `calendar::date_in` meets its contract. Assumes nothing.
use mathlib.Core.Path.{sym, ◌∙◌}
use Rattle.calendar.proofs.Parts.{date-good, date-wrong}
use Rattle.calendar.proofs.date_in.Goals as goal

pub returns-then-is_day : goal.returns-then-is_day
returns-then-is_day c = date-good c.args.part.now c.requires.0 _ _ _ _ c.pair.ensures c.pair-2.ensures c.pair-month.ensures c.pair-day.ensures (sym c.is_day.ensures ∙ c.if-is_day.true)

pub returns-else-is_day : goal.returns-else-is_day
returns-else-is_day c = date-wrong c.args.part.now c.requires.0 _ _ _ _ c.pair.ensures c.pair-2.ensures c.pair-month.ensures c.pair-day.ensures (sym c.is_day.ensures ∙ c.if-is_day.false)
