-- `placing::put_three` meets its contract. Assumes nothing.
use mathlib.Core.List.{[], ◌∷◌}
use Rattle.fill.proofs.Places.{kept, behind, stored}
use Rattle.placing.proofs.put_three.Goals as goal

pub returns : goal.returns
returns c =
    stored _ _ _ _ _ _ 60
    (behind _ _ (_ ∷ []) _ (_ ∷ []) _ 20 40 (kept _ _ _ 20 c.put_text-one.ensures)
    (behind _ _ (_ ∷ []) (_ ∷ []) (_ ∷ []) _ 20 20 (kept _ _ _ 20 c.put_text-two.ensures)
    (kept _ _ _ 20 c.put_text-three.ensures)))
    c.keep.ensures
