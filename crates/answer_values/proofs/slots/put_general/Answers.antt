-- `answer_values::slots::put_general` meets its contract. Assumes nothing.
use mathlib.Core.List.{[], ◌∷◌}
use Rattle.fill.proofs.Places.{kept, behind, stored}
use Rattle.typed.proofs.Widths.{moment-most}
use Rattle.answer_values.specs.Values.{values}
use Rattle.answer_values.proofs.Widths.{function-most}
use Rattle.answer_values.proofs.slots.put_general.Goals as goal

pub returns : goal.returns
unfolding values
returns c =
    stored _ _ _ _ _ _ 43
    (behind _ _ (_ ∷ []) _ (_ ∷ []) _ 20 23 (kept _ _ _ 20 c.put_text-seme.ensures)
    (behind _ _ (_ ∷ []) (_ ∷ []) (_ ∷ []) _ 9 14 (kept _ _ _ 9 (let e = c.put_function-function.ensures in (e.0, e.1, function-most _)))
    (kept _ _ _ 14 (let e = c.put-prep.ensures in (e.0, e.1, moment-most _)))))
    c.keep.ensures
