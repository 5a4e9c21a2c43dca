-- `values::slots::put_security` meets its contract. Assumes nothing.
use mathlib.Core.List.{[], ◌∷◌}
use Rattle.values.specs.Values.{values}
use Rattle.fill.proofs.Places.{kept, behind, stored}
use Rattle.typed.proofs.Widths.{amount-most}
use Rattle.values.proofs.slots.put_security.Goals as goal

pub returns : goal.returns
unfolding values
returns c =
    stored _ _ _ _ _ _ 95
    (behind _ _ (_ ∷ []) _ (_ ∷ []) _ 15 80 (kept _ _ _ 15 (let e = c.put-par.ensures in (e.0, e.1, amount-most _)))
    (behind _ _ (_ ∷ []) _ (_ ∷ []) _ 20 60 (kept _ _ _ 20 c.put_text-cusip.ensures)
    (behind _ _ (_ ∷ []) (_ ∷ []) (_ ∷ []) _ 20 40 (kept _ _ _ 20 c.put_text-pool.ensures)
    (kept _ _ _ 40 c.put_narrative-told.ensures))))
    c.keep.ensures
