-- `forms::pool::is_shape` meets its contract. Assumes nothing.
use mathlib.Core.Path.{sym, ap, ◌∙◌}
use borrow.Author.Tests.{not-true, not-false}
use Rattle.text.specs.Bytes.{bytes}
use Rattle.reason.specs.Reason.{good_reason}
use Rattle.forms.specs.Pool.{is_pool_shape}
use Rattle.forms.proofs.pool.is_shape.Goals as goal

pub returns-then-not-begins_with : goal.returns-then-not-begins_with
unfolding is_pool_shape bytes
returns-then-not-begins_with c = rw (sym c.begins_with.ensures ∙ not-true _ c.if-not-begins_with.true-raw)

pub returns : goal.returns
unfolding is_pool_shape bytes
returns c = rw (sym c.begins_with.ensures ∙ not-false _ c.if-not-begins_with.false-raw) (c.is_good.ensures ∙ ap good_reason c.behind_delivery.ensures)
