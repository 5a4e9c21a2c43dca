-- `forms::pool::behind_delivery` meets its contract. Assumes nothing.
use mathlib.Core.Path.{sym, ◌∙◌}
use borrow.Author.Tests.{not-true, not-false}
use Rattle.forms.specs.Pool.{delivery_in, behind_delivery}
use Rattle.forms.proofs.pool.behind_delivery.Goals as goal

pub returns-then-not-has_delivery : goal.returns-then-not-has_delivery
unfolding behind_delivery
returns-then-not-has_delivery c = rw (sym c.has_delivery.ensures ∙ not-true _ c.if-not-has_delivery.true-raw) c.behind_cdr-rest.ensures

pub returns : goal.returns
unfolding behind_delivery delivery_in
returns c =
    rw (
      sym c.has_delivery.ensures ∙ not-false _ c.if-not-has_delivery.false-raw,
      ← c.behind_cdr-rest.ensures,
      ← c.from-date.ensures,
      ← c.find.ensures,
    ) c.from.ensures
