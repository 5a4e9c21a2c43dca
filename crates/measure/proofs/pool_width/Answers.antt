-- `measure::pool_width` meets its contract. Assumes nothing.
use mathlib.Core.Path.{sym, ◌∙◌}
use native.Mathlib.Omega.{arith}
use lib.ListN.{length-take}
use Rattle.forms.specs.Forms.{form_number}
use Rattle.measure.proofs.Laws.{pool-told}
use Rattle.measure.proofs.pool_width.Goals as goal

pub slice_bounds-number-end : goal.slice_bounds-number-end
slice_bounds-number-end c = rw length-take (omega arith)

pub returns-then-number-eq0 : goal.returns-then-number-eq0
unfolding form_number
returns-then-number-eq0 c = pool-told _ _ (omega arith) (sym c.number.ensures ∙ c.if-number-eq0.true)
