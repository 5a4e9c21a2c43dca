-- `forms::narrative::is_narrative` meets its contract: its tests come in the order of the definition. Assumes nothing.
use mathlib.Core.Path.{sym, ap, ◌∙◌}
use borrow.Author.Tests.{not-true, not-false}
use Rattle.text.specs.Bytes.{bytes}
use Rattle.reason.specs.Reason.{good_reason}
use Rattle.forms.specs.Narrative.{is_narrative}
use Rattle.forms.proofs.Parts.{service-none, service-one}
use Rattle.forms.proofs.narrative.is_narrative.Goals as goal

pub returns-then-not-begins_with : goal.returns-then-not-begins_with
unfolding is_narrative bytes
returns-then-not-begins_with c = rw (sym c.begins_with.ensures ∙ not-true _ c.if-not-begins_with.true-raw)

pub returns-then-service_at-ge3 : goal.returns-then-service_at-ge3
unfolding is_narrative bytes
returns-then-service_at-ge3 c =
    rw (
      sym c.begins_with.ensures ∙ not-false _ c.if-not-begins_with.false-raw,
      service-none _ _ c.service_at.ensures c.if-service_at-ge3.true,
    )

pub returns-then-not-good_period : goal.returns-then-not-good_period
unfolding is_narrative bytes
returns-then-not-good_period c =
    rw (
      sym c.begins_with.ensures ∙ not-false _ c.if-not-begins_with.false-raw,
      service-one _ _ c.service_at.ensures c.if-service_at-ge3.false,
      sym c.good_period.ensures ∙ not-true _ c.if-not-good_period.true-raw,
    )

pub returns : goal.returns
unfolding is_narrative bytes
returns c =
    rw (
      sym c.begins_with.ensures ∙ not-false _ c.if-not-begins_with.false-raw,
      service-one _ _ c.service_at.ensures c.if-service_at-ge3.false,
      sym c.good_period.ensures ∙ not-false _ c.if-not-good_period.false-raw,
    ) (c.is_good.ensures ∙ ap good_reason c.behind_period.ensures)
