-- `batch::without_message` meets its contract. Assumes nothing.
use Rattle.batch.specs.Batch.{blank_reading}
use Rattle.batch.proofs.without_message.Goals as goal

pub returns : goal.returns
unfolding blank_reading
returns g c = rw c.blank.ensures
