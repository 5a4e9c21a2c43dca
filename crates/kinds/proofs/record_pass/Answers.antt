-- `kinds::record_pass` meets its contract: a chain of rules, each of which stops it or leaves it to the next. Assumes nothing.
use mathlib.Core.Path.{refl, sym, ◌∙◌}
use borrow.Author.Tests.{eq-eqb, ne_eqb}
use Rattle.lines.specs.Verdicts.{refused, pass}
use Rattle.lines.proofs.Rules.{stops, goes_on, broken, kept}
use Rattle.kinds.specs.Kinds.{record_pass}
use Rattle.kinds.proofs.record_pass.Goals as goal

pub returns-then-lacks : goal.returns-then-lacks
unfolding record_pass
returns-then-lacks c = c.refused.ensures ∙ stops _ 14 _ (sym c.lacks_field-lacks.ensures ∙ c.if-lacks.true) refl

pub returns-then-forbidden : goal.returns-then-forbidden
unfolding record_pass
returns-then-forbidden c =
    c.refused-then-forbidden.ensures ∙ stops _ 15 _ (sym c.has_forbidden-forbidden.ensures ∙ c.if-forbidden.true) refl
    ∙ goes_on _ 14 _ (sym c.lacks_field-lacks.ensures ∙ c.if-lacks.false)

pub returns-then-trade-eq0 : goal.returns-then-trade-eq0
unfolding record_pass
returns-then-trade-eq0 c =
    c.refused-then-trade-eq0.ensures ∙ stops _ 16 _ (eq-eqb _ _ c.if-trade-eq0.true) refl
    ∙ goes_on _ 15 _ (sym c.has_forbidden-forbidden.ensures ∙ c.if-forbidden.false)
    ∙ goes_on _ 14 _ (sym c.lacks_field-lacks.ensures ∙ c.if-lacks.false)

pub returns-then-before : goal.returns-then-before
unfolding record_pass
returns-then-before c =
    c.refused-then-before.ensures ∙ broken _ 17 (sym c.before-2.ensures ∙ c.if-before.true)
    ∙ goes_on _ 16 _ (ne_eqb _ _ c.if-trade-eq0.false)
    ∙ goes_on _ 15 _ (sym c.has_forbidden-forbidden.ensures ∙ c.if-forbidden.false)
    ∙ goes_on _ 14 _ (sym c.lacks_field-lacks.ensures ∙ c.if-lacks.false)

pub returns : goal.returns
unfolding record_pass pass refused
returns c =
    kept _ 17 (sym c.before-2.ensures ∙ c.if-before.false)
    ∙ goes_on _ 16 _ (ne_eqb _ _ c.if-trade-eq0.false)
    ∙ goes_on _ 15 _ (sym c.has_forbidden-forbidden.ensures ∙ c.if-forbidden.false)
    ∙ goes_on _ 14 _ (sym c.lacks_field-lacks.ensures ∙ c.if-lacks.false)
