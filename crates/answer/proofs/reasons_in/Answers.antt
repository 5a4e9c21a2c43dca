use mathlib.Core.Path.{◌≡◌, refl, ◌∙◌}
use native.Mathlib.Omega.{arith}
use Rattle.answer.specs.Records.{no_reason}
use Rattle.answer.proofs.Reasons.{one_more, all_there}
use Rattle.answer.proofs.reasons_in.Goals as goal

pub loop-k-init : goal.loop-k-init
unfolding no_reason
loop-k-init c = refl

pub loop-k-preserved : goal.loop-k-preserved
loop-k-preserved c = one_more _ _ c.loop-k-test.true _ c.loop-k.invariant _ c.reason_in.ensures

pub returns : goal.returns
returns c =
    let k : c.loop-k.k ≡ 10 = omega arith in
    c.loop-k.invariant ∙ rw k (all_there _)
