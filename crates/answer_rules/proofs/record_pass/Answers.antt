-- `answer_rules::record_pass` meets its contract: a chain of rules, each of which stops it or leaves it to the next. Assumes nothing.
use mathlib.Core.Path.{refl, sym, ◌∙◌}
use Rattle.lines.specs.Verdicts.{refused, pass}
use Rattle.lines.proofs.Rules.{stops, goes_on, broken, kept}
use Rattle.answer_rules.specs.Rules.{record_pass}
use Rattle.answer_rules.proofs.record_pass.Goals as goal

pub returns-then-lacks_reason : goal.returns-then-lacks_reason
unfolding record_pass
returns-then-lacks_reason c = c.refused.ensures ∙ stops _ 14 _ (sym c.lacks_reason.ensures ∙ c.if-lacks_reason.true) refl

pub returns-then-has_forbidden : goal.returns-then-has_forbidden
unfolding record_pass
returns-then-has_forbidden c =
    c.refused-then-has_forbidden.ensures ∙ broken _ 15 (sym c.has_forbidden.ensures ∙ c.if-has_forbidden.true)
    ∙ goes_on _ 14 _ (sym c.lacks_reason.ensures ∙ c.if-lacks_reason.false)

pub returns : goal.returns
unfolding record_pass pass refused
returns c =
    kept _ 15 (sym c.has_forbidden.ensures ∙ c.if-has_forbidden.false)
    ∙ goes_on _ 14 _ (sym c.lacks_reason.ensures ∙ c.if-lacks_reason.false)
