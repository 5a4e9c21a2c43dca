-- `answer::reason_in` meets its contract. Assumes nothing.
use Rattle.answer.specs.Records.{reason_of}
use Rattle.answer.proofs.reason_in.Goals as goal

pub returns : goal.returns
unfolding reason_of
returns c = rw (c.text_at.ensures, c.of.ensures, c.stretch.ensures)
