use mathlib.Core.Path.{sym, ◌∙◌}
use Rattle.bars.proofs.Laws.{first_word, no_word}
use Rattle.bars.proofs.goes_on.Goals as goal

pub returns-then-begins_with : goal.returns-then-begins_with
returns-then-begins_with c =
    let (size, same) = c.loop-word.invariant in
    let cut = c.in-Some.ensures.steps.1 in
    let here = first_word _ _ _ c.args.value.now cut.0 (cut.1 ∙ size) in
    rw (sym c.begins_with.ensures ∙ c.if-begins_with.true) at here ∙ same

pub loop-word-preserved : goal.loop-word-preserved
loop-word-preserved c =
    let (size, same) = c.loop-word.invariant in
    let steps = c.in-Some.ensures.steps in
    let cut = steps.1 in
    let here = first_word _ _ _ c.args.value.now cut.0 (cut.1 ∙ size) in
    (steps.0 ∙ size, rw (sym c.begins_with.ensures ∙ c.if-begins_with.false) at here ∙ same)

pub returns : goal.returns
returns c =
    let (size, same) = c.loop-word.invariant in
    no_word _ c.args.value.now (rw size at c.in-None.ensures.steps.1.0) ∙ same
