-- `placing::put_two` meets its contract. Assumes nothing.
use mathlib.Core.List.{[], ◌∷◌}
use Rattle.fill.proofs.Places.{kept, behind, stored}
use Rattle.placing.proofs.put_two.Goals as goal

pub returns : goal.returns
returns c =
    stored _ _ _ _ _ _ 40
    (behind _ _ (_ ∷ []) (_ ∷ []) (_ ∷ []) _ 20 20 (kept _ _ _ 20 c.put_text-one.ensures) (kept _ _ _ 20 c.put_text-two.ensures))
    c.keep.ensures
