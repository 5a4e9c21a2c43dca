use mathlib.Core.Path.{ap, ◌≡◌, sym, ◌∙◌}
use mathlib.Core.Bool.{not}
use native.Mathlib.Omega.{arith}
use Rattle.format.specs.Writable.{hold}
use Rattle.answer_values.specs.Writable.{stands, reason_tests}
use Rattle.answer_judge.proofs.Tests.{fails, passes}
use Rattle.answer_judge.proofs.form.reasons_form.Goals as goal

pub returns-then-not-reason_form : goal.returns-then-not-reason_form
returns-then-not-reason_form c = fails _ _ _ (omega arith) _ c.reason_at-reason.ensures _ c.reason_form.ensures (ap not c.if-not-reason_form.true) ∙ sym c.loop-number.invariant

pub loop-number-preserved : goal.loop-number-preserved
unfolding stands
loop-number-preserved c = c.loop-number.invariant ∙ passes _ _ _ (omega arith) _ c.reason_at-reason.ensures _ c.reason_form.ensures (ap not c.if-not-reason_form.false)

pub returns : goal.returns
unfolding hold reason_tests
returns c =
    let end : c.loop-number.number ≡ 10 = omega arith in
    sym (c.loop-number.invariant ∙ rw end)
