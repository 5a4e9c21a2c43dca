-- `pool_values::slots::put_details` meets its contract. Assumes nothing.
use mathlib.Core.Path.{refl}
use mathlib.Core.List.{[], ◌∷◌}
use Rattle.fill.proofs.Places.{kept, behind, stored, more}
use Rattle.typed.proofs.Widths.{moment-most, date-most, amount-most}
use Rattle.pool_values.specs.Values.{values}
use Rattle.pool_values.proofs.slots.put_details.Goals as goal

pub returns : goal.returns
unfolding values
returns c =
    rw (← c.side_word.ensures, ← c.kind_word.ensures)
    (more _ _ _ 7 11 _ _ 52 8 refl
    (stored _ _ _ _ _ _ 52
    (behind _ _ (_ ∷ []) _ (_ ∷ []) _ 14 38 (kept _ _ _ 14 (let e = c.put-trad.ensures in (e.0, e.1, moment-most _)))
    (behind _ _ (_ ∷ []) _ (_ ∷ []) _ 8 30 (kept _ _ _ 8 (let e = c.put-sett.ensures in (e.0, e.1, date-most _)))
    (behind _ _ (_ ∷ []) (_ ∷ []) (_ ∷ []) _ 15 15 (kept _ _ _ 15 (let e = c.put-price.ensures in (e.0, e.1, amount-most _)))
    (kept _ _ _ 15 c.put_payment-paid.ensures))))
    c.keep.ensures)
    c.put_words.ensures)
