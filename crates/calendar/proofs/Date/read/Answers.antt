-- `calendar::Date::read` meets its contract. Assumes nothing.
use mathlib.Core.Path.{sym, ◌∙◌}
use native.Mathlib.Omega.{arith}
use Rattle.calendar.proofs.Parts.{not_eight, eight-wrong, eight}
use Rattle.calendar.proofs.Date.read.Goals as goal

pub returns-then-part-ne8 : goal.returns-then-part-ne8
returns-then-part-ne8 c = not_eight _ c.if-part-ne8.true

pub date_in-requires : goal.date_in-requires
date_in-requires c = (omega arith, sym c.all_in.ensures ∙ c.if-all_in.true)

pub returns-then-all_in : goal.returns-then-all_in
returns-then-all_in c = c.date_in.ensures ∙ eight _ c.if-part-ne8.false (sym c.all_in.ensures ∙ c.if-all_in.true)

pub returns-else-all_in : goal.returns-else-all_in
returns-else-all_in c = eight-wrong _ (sym c.all_in.ensures ∙ c.if-all_in.false)
