-- `pool_values::slots::put_general` meets its contract. Assumes nothing.
use mathlib.Core.Path.{refl}
use mathlib.Core.List.{[], ◌∷◌}
use Rattle.fill.proofs.Places.{kept, behind, stored, more}
use Rattle.typed.proofs.Widths.{word-most}
use Rattle.pool_values.specs.Values.{values}
use Rattle.pool_values.proofs.Widths.{function-four}
use Rattle.pool_values.proofs.slots.put_general.Goals as goal

pub returns : goal.returns
unfolding values
returns c =
    let word = c.function_word.ensures in
    rw (← word)
    (more _ _ _ 2 4 _ _ 24 60 refl
    (stored _ _ _ _ _ _ 24
    (behind _ _ (_ ∷ []) (_ ∷ []) (_ ∷ []) _ 20 4 (kept _ _ _ 20 c.put_text-seme.ensures)
    (kept _ _ _ 4 (let e = c.put-function.ensures in (e.0, e.1, word-most _ _ word (function-four _)))))
    c.keep.ensures)
    c.put_three.ensures)
