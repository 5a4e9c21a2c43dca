-- `values::slots::put_general` meets its contract. Assumes nothing.
use mathlib.Core.Path.{refl}
use mathlib.Core.List.{[], ◌∷◌}
use Rattle.values.specs.Values.{values}
use Rattle.fill.proofs.Places.{kept, behind, stored, more}
use Rattle.typed.proofs.Widths.{moment-most, word-most}
use Rattle.values.proofs.Widths.{function-four}
use Rattle.calendar.proofs.Moment.put.Reads as Moment-put-reads
use Rattle.values.proofs.slots.put_general.Goals as goal

pub returns : goal.returns
unfolding values
returns c =
    let word = c.function_word.ensures in
    rw (← word)
    (more _ _ _ 2 5 _ _ 38 60 refl
    (stored _ _ _ _ _ _ 38
    (behind _ _ (_ ∷ []) _ (_ ∷ []) _ 20 18 (kept _ _ _ 20 c.put_text-seme.ensures)
    (behind _ _ (_ ∷ []) (_ ∷ []) (_ ∷ []) _ 4 14 (kept _ _ _ 4 (let e = c.put-function.ensures in (e.0, e.1, word-most _ _ word (function-four _))))
    (kept _ _ _ 14 (let e = c.put-prep.ensures in (e.0, e.1, moment-most _)))))
    c.keep.ensures)
    c.put_three.ensures)
