-- `pool_kinds::record_pass` meets its contract: a chain of rules, each of which stops it or leaves it to the next. Assumes nothing.
-- what was asked of the letters is what the rules say
use mathlib.Core.Path.{◌≡◌, refl, sym, ◌∙◌}
use borrow.Author.Tests.{eq-eqb, ne_eqb}
use Rattle.lines.specs.Verdicts.{refused, pass}
use Rattle.lines.proofs.Rules.{stops, goes_on, broken, kept}
use Rattle.pool_kinds.specs.Kinds.{lacks_field, has_forbidden, record_pass}
use Rattle.pool_kinds.proofs.record_pass.Goals as goal

pub returns-then-some_of : goal.returns-then-some_of
unfolding record_pass lacks_field
returns-then-some_of c =
    let lacks : c.some_of.result ≡ lacks_field c.args.trade =
    c.some_of.ensures ∙ rw (c.needs-letters.ensures, c.there-has.ensures)
    in
    c.refused.ensures ∙ stops _ 14 _ (sym lacks ∙ c.if-some_of.true) refl

pub returns-then-some_of-2 : goal.returns-then-some_of-2
unfolding record_pass has_forbidden lacks_field
returns-then-some_of-2 c =
    let forbids : c.some_of-2.result ≡ has_forbidden c.args.trade =
    c.some_of-2.ensures ∙ rw (c.needs-letters.ensures, c.there-has.ensures)
    in
    let lacks : c.some_of.result ≡ lacks_field c.args.trade =
    c.some_of.ensures ∙ rw (c.needs-letters.ensures, c.there-has.ensures)
    in
    c.refused-then-some_of-2.ensures ∙ stops _ 15 _ (sym forbids ∙ c.if-some_of-2.true) refl
    ∙ goes_on _ 14 _ (sym lacks ∙ c.if-some_of.false)

pub returns-then-trade-eq0 : goal.returns-then-trade-eq0
unfolding record_pass has_forbidden lacks_field
returns-then-trade-eq0 c =
    let forbids : c.some_of-2.result ≡ has_forbidden c.args.trade =
    c.some_of-2.ensures ∙ rw (c.needs-letters.ensures, c.there-has.ensures)
    in
    let lacks : c.some_of.result ≡ lacks_field c.args.trade =
    c.some_of.ensures ∙ rw (c.needs-letters.ensures, c.there-has.ensures)
    in
    c.refused-then-trade-eq0.ensures ∙ stops _ 16 _ (eq-eqb _ _ c.if-trade-eq0.true) refl
    ∙ goes_on _ 15 _ (sym forbids ∙ c.if-some_of-2.false)
    ∙ goes_on _ 14 _ (sym lacks ∙ c.if-some_of.false)

pub returns-then-before : goal.returns-then-before
unfolding record_pass has_forbidden lacks_field
returns-then-before c =
    let forbids : c.some_of-2.result ≡ has_forbidden c.args.trade =
    c.some_of-2.ensures ∙ rw (c.needs-letters.ensures, c.there-has.ensures)
    in
    let lacks : c.some_of.result ≡ lacks_field c.args.trade =
    c.some_of.ensures ∙ rw (c.needs-letters.ensures, c.there-has.ensures)
    in
    c.refused-then-before.ensures ∙ broken _ 17 (sym c.before-2.ensures ∙ c.if-before.true)
    ∙ goes_on _ 16 _ (ne_eqb _ _ c.if-trade-eq0.false)
    ∙ goes_on _ 15 _ (sym forbids ∙ c.if-some_of-2.false)
    ∙ goes_on _ 14 _ (sym lacks ∙ c.if-some_of.false)

pub returns : goal.returns
unfolding record_pass pass refused has_forbidden lacks_field
returns c =
    let forbids : c.some_of-2.result ≡ has_forbidden c.args.trade =
    c.some_of-2.ensures ∙ rw (c.needs-letters.ensures, c.there-has.ensures)
    in
    let lacks : c.some_of.result ≡ lacks_field c.args.trade =
    c.some_of.ensures ∙ rw (c.needs-letters.ensures, c.there-has.ensures)
    in
    kept _ 17 (sym c.before-2.ensures ∙ c.if-before.false)
    ∙ goes_on _ 16 _ (ne_eqb _ _ c.if-trade-eq0.false)
    ∙ goes_on _ 15 _ (sym forbids ∙ c.if-some_of-2.false)
    ∙ goes_on _ 14 _ (sym lacks ∙ c.if-some_of.false)
