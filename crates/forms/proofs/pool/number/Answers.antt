-- `forms::pool::number` meets its contract. Assumes nothing.
use mathlib.Core.Path.{sym, ap, ◌∙◌}
use borrow.Author.Tests.{not-true, not-false}
use Rattle.calendar.specs.Dates.{date_number}
use Rattle.forms.specs.Pool.{pool_number}
use Rattle.forms.proofs.pool.number.Goals as goal

pub returns-then-not-is_shape : goal.returns-then-not-is_shape
unfolding pool_number
returns-then-not-is_shape c = rw (sym c.is_shape.ensures ∙ not-true _ c.if-not-is_shape.true-raw)

pub returns-then-not-has_delivery : goal.returns-then-not-has_delivery
unfolding pool_number
returns-then-not-has_delivery c = rw (sym c.is_shape.ensures ∙ not-false _ c.if-not-is_shape.false-raw, sym c.has_delivery.ensures ∙ not-true _ c.if-not-has_delivery.true-raw)

pub returns : goal.returns
unfolding pool_number
returns c =
    rw (
      sym c.is_shape.ensures ∙ not-false _ c.if-not-is_shape.false-raw,
      sym c.has_delivery.ensures ∙ not-false _ c.if-not-has_delivery.false-raw,
      ← c.delivery_in.ensures,
    ) (c.number.ensures ∙ ap date_number c.read.ensures)
