-- `calendar::Moment::put` meets its contract. Assumes nothing.
use native.Mathlib.Omega.{arith}
use mathlib.Core.Path.{sym, ◌∙◌}
use Rattle.calendar.proofs.Laws.{moment-small}
use Rattle.calendar.proofs.Moment.put.Goals as goal

pub overflow_mul-self : goal.overflow_mul-self
overflow_mul-self c = omega (arith, moment-small _ (sym c.in_form.ensures ∙ c.if-in_form.true))

pub overflow_add-self : goal.overflow_add-self
overflow_add-self c = omega (arith, moment-small _ (sym c.in_form.ensures ∙ c.if-in_form.true))
