-- `forms::judge` meets its contract. Assumes nothing.
use mathlib.Core.Path.{refl, sym, ◌∙◌}
use borrow.Author.Tests.{not-true, not-false}
use Rattle.text.proofs.Laws.{begins-length}
use Rattle.forms.proofs.Parts.{form-is, not-fixed, judged, unjudged}
use Rattle.forms.proofs.judge.Goals as goal

pub returns-then-not-begins_with : goal.returns-then-not-begins_with
returns-then-not-begins_with c = not-fixed _ _ _ c.fixed_text-fixed.ensures (sym c.begins_with.ensures ∙ not-true _ c.if-not-begins_with.true-raw)

pub returns-then-slots-slot : goal.returns-then-slots-slot
returns-then-slots-slot c = unjudged _ _ _ c.if-slots-slot.true

pub slice_bounds-judge_form-count-2 : goal.slice_bounds-judge_form-count-2
slice_bounds-judge_form-count-2 c = begins-length _ _ (sym c.begins_with.ensures ∙ not-false _ c.if-not-begins_with.false-raw)

pub slice_bounds-judge_form-start-2 : goal.slice_bounds-judge_form-start-2
slice_bounds-judge_form-start-2 c = begins-length _ _ (sym c.begins_with.ensures ∙ not-false _ c.if-not-begins_with.false-raw)

pub returns : goal.returns
returns c =
    judged _ _ _ _ _ c.fixed_text-fixed.ensures (sym c.begins_with.ensures ∙ not-false _ c.if-not-begins_with.false-raw)
    (form-is c.args.slots.now c.args.slot c.if-slots-slot.false _ refl) c.judge_form.ensures
