-- `values::slots::put_header` meets its contract. Assumes nothing.
use mathlib.Core.Path.{refl}
use mathlib.Core.List.{[], ◌∷◌}
use Rattle.fill.proofs.Places.{none_kept, behind, stored, more}
use Rattle.values.proofs.slots.put_header.Goals as goal

pub returns : goal.returns
returns c =
    more _ _ _ 23 29 ([] ∷ [] ∷ [] ∷ [] ∷ [] ∷ [] ∷ []) _ 0 40 refl
    (stored _ _ _ _ _ _ 0
    (behind _ _ ([] ∷ []) _ (_ ∷ []) _ 0 0 (none_kept _ _)
    (behind _ _ ([] ∷ []) _ (_ ∷ []) _ 0 0 (none_kept _ _)
    (behind _ _ ([] ∷ []) _ (_ ∷ []) _ 0 0 (none_kept _ _)
    (behind _ _ ([] ∷ []) _ (_ ∷ []) _ 0 0 (none_kept _ _)
    (behind _ _ ([] ∷ []) ([] ∷ []) (_ ∷ []) _ 0 0 (none_kept _ _) (none_kept _ _))))))
    c.keep.ensures)
    c.put_two.ensures
