use mathlib.Core.Path.{refl}
use native.Mathlib.Omega.{arith}
use Rattle.fill.specs.Filling.{lent, behind_at}
use Rattle.fill.specs.Steps.{number_at}
use Rattle.fill.proofs.Rows.{any-shut, any-end, any_found, any-more, deep_more}
use Rattle.fill.proofs.standing.any_value.Goals as goal

pub loop-i-init : goal.loop-i-init
loop-i-init c = (refl, omega arith)

pub returns-then-deep-eq0 : goal.returns-then-deep-eq0
returns-then-deep-eq0 c =
    let a = c.args in
    any-shut (behind_at (lent a.slots.now a.optional.now a.text.now a.starts.now a.ends.now)) a.rows.now a.row c.loop-i.i c.loop-i.deep c.loop-i.invariant.0 c.if-deep-eq0.true

pub returns-then-has_value : goal.returns-then-has_value
returns-then-has_value c =
    let a = c.args in
    any_found (behind_at (lent a.slots.now a.optional.now a.text.now a.starts.now a.ends.now)) a.rows.now a.row c.loop-i.i c.loop-i.deep c.loop-i.invariant.0 c.loop-i-test.true c.if-deep-eq0.false _ (rw (← c.of-kind.ensures) c.has_value.ensures) c.if-has_value.true

pub loop-i-preserved : goal.loop-i-preserved
loop-i-preserved c =
    let a = c.args in (
      any-more (behind_at (lent a.slots.now a.optional.now a.text.now a.starts.now a.ends.now)) a.rows.now a.row c.loop-i.i c.loop-i.deep c.loop-i.invariant.0 c.loop-i-test.true c.if-deep-eq0.false _ (rw (← c.of-kind.ensures) c.has_value.ensures) c.if-has_value.false _ (rw (← c.of-kind.ensures) c.deeper-deep.ensures),
      deep_more (behind_at (lent a.slots.now a.optional.now a.text.now a.starts.now a.ends.now)) (number_at a.rows.now c.loop-i.i) _ _ _ c.loop-i.invariant.1 (rw (← c.of-kind.ensures) c.deeper-deep.ensures),
    )

pub returns : goal.returns
returns c =
    let a = c.args in
    any-end (behind_at (lent a.slots.now a.optional.now a.text.now a.starts.now a.ends.now)) a.rows.now a.row c.loop-i.i c.loop-i.deep c.loop-i.invariant.0 c.loop-i-test.false
