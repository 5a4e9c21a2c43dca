-- `measure::narrative_width` meets its contract. Assumes nothing.
use mathlib.Core.Path.{sym, ◌∙◌}
use native.Mathlib.Omega.{arith}
use lib.ListN.{length-take}
use Rattle.measure.proofs.Laws.{narrative-told}
use Rattle.measure.proofs.narrative_width.Goals as goal

pub slice_bounds-is_narrative-end : goal.slice_bounds-is_narrative-end
slice_bounds-is_narrative-end c = rw length-take (omega arith)

pub returns-then-is_narrative : goal.returns-then-is_narrative
returns-then-is_narrative c = narrative-told _ _ (omega arith) (sym c.is_narrative.ensures ∙ c.if-is_narrative.true)
