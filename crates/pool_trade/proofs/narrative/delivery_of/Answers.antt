-- `pool_trade::narrative::delivery_of` meets its contract: no date where the narrative has none. Assumes nothing.
use mathlib.Core.Path.{sym, ◌∙◌}
use borrow.Author.Tests.{not-true, not-false}
use Rattle.pool_trade.specs.Narrative.{delivery_of}
use Rattle.pool_trade.proofs.narrative.delivery_of.Goals as goal

pub returns-then-not-has_delivery : goal.returns-then-not-has_delivery
unfolding delivery_of
returns-then-not-has_delivery c = rw (sym c.has_delivery.ensures ∙ not-true _ c.if-not-has_delivery.true-raw)

pub returns : goal.returns
unfolding delivery_of
returns c = rw (sym c.has_delivery.ensures ∙ not-false _ c.if-not-has_delivery.false-raw, ← c.delivery_in.ensures, ← c.read.ensures, c.unwrap_or.ensures)
