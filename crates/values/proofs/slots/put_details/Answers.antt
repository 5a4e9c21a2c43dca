-- `values::slots::put_details` meets its contract. Assumes nothing.
use mathlib.Core.Path.{refl}
use mathlib.Core.List.{[], ◌∷◌}
use Rattle.values.specs.Values.{values}
use Rattle.fill.proofs.Places.{kept, behind, stored, more}
use Rattle.typed.proofs.Widths.{moment-most, date-most, amount-most}
use Rattle.amount.proofs.Amount.put.Reads as Amount-put-reads
use Rattle.calendar.proofs.Date.put.Reads as Date-put-reads
use Rattle.calendar.proofs.Moment.put.Reads as Moment-put-reads
use Rattle.values.proofs.slots.put_details.Goals as goal

pub returns : goal.returns
unfolding values
returns c =
    rw (← c.side_word.ensures, ← c.kind_word.ensures)
    (more _ _ _ 8 11 _ _ 37 8 refl
    (stored _ _ _ _ _ _ 37
    (behind _ _ (_ ∷ []) _ (_ ∷ []) _ 14 23 (kept _ _ _ 14 (let e = c.put-trad.ensures in (e.0, e.1, moment-most _)))
    (behind _ _ (_ ∷ []) (_ ∷ []) (_ ∷ []) _ 8 15 (kept _ _ _ 8 (let e = c.put-sett.ensures in (e.0, e.1, date-most _)))
    (kept _ _ _ 15 (let e = c.put-price.ensures in (e.0, e.1, amount-most _)))))
    c.keep.ensures)
    c.put_words.ensures)
