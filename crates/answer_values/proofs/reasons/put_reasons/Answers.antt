use mathlib.Core.Path.{◌≡◌, ap, ◌∙◌}
use native.Mathlib.Omega.{arith}
use lib.ListN.{length}
use Rattle.fill.proofs.Runs.{length_run}
use Rattle.answer_values.proofs.Puts.{none-put, one_more, as_many}
use Rattle.answer_values.proofs.reasons.put_reasons.Goals as goal

pub loop-number-init : goal.loop-number-init
loop-number-init c = none-put _ _ _ _

pub loop-number-preserved : goal.loop-number-preserved
loop-number-preserved c = one_more _ _ _ _ _ c.loop-number.invariant _ c.reason_at-reason.ensures c.put_reason-behind.ensures

pub shape_of-text : goal.shape_of-text
shape_of-text c = ap length c.loop-number.invariant.1 ∙ length_run _ _ _

pub shape_of-places : goal.shape_of-places
shape_of-places c = as_many _ _ _ _ _ c.loop-number.invariant

pub returns : goal.returns
returns c =
    let number : c.loop-number.number ≡ 10 = omega arith in
    rw number at c.loop-number.invariant
