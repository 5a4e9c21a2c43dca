-- `answer_values::slots::put_status` meets its contract. Assumes nothing.
use Rattle.fill.proofs.Places.{kept, stored}
use Rattle.answer_values.specs.Values.{values}
use Rattle.answer_values.proofs.Widths.{status-most}
use Rattle.answer_values.proofs.slots.put_status.Goals as goal

pub returns : goal.returns
unfolding values
returns c = stored _ _ _ _ _ _ 14 (kept _ _ _ 14 (let e = c.put-status.ensures in (e.0, e.1, status-most _))) c.keep.ensures
