-- `reading::refuse` meets its contract. Assumes nothing.
use Rattle.reading.specs.Reading.{refusal}
use Rattle.reading.proofs.refuse.Goals as goal

pub returns : goal.returns
unfolding refusal
returns g c = rw c.blank.ensures
