-- `pool_values::slots::put_security` meets its contract. Assumes nothing.
use mathlib.Core.List.{[], ◌∷◌}
use Rattle.fill.proofs.Places.{kept, behind, stored}
use Rattle.typed.proofs.Widths.{amount-most}
use Rattle.pool_values.specs.Values.{values}
use Rattle.pool_values.proofs.slots.put_security.Goals as goal

pub returns : goal.returns
unfolding values
returns c =
    stored _ _ _ _ _ _ 107
    (behind _ _ (_ ∷ []) _ (_ ∷ []) _ 15 92 (kept _ _ _ 15 (let e = c.put-par.ensures in (e.0, e.1, amount-most _)))
    (behind _ _ (_ ∷ []) _ (_ ∷ []) _ 20 72 (kept _ _ _ 20 c.put_text-cusip.ensures)
    (behind _ _ (_ ∷ []) (_ ∷ []) (_ ∷ []) _ 20 52 (kept _ _ _ 20 c.put_text-pool.ensures)
    (kept _ _ _ 52 c.put_narrative-told.ensures))))
    c.keep.ensures
