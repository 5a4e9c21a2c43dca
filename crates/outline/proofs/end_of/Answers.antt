-- `outline::end_of` meets its contract. Assumes nothing.
use Rattle.outline.specs.Outline.{end_at}
use Rattle.outline.proofs.end_of.Goals as goal

pub returns : goal.returns
unfolding end_at
returns g c = rw (c.at.ensures, c.slot_of.ensures)
