-- `optional` of the MT515 meets its contract. Assumes nothing.
use Rattle.mt515.proofs.Optional.{optional-is}
use Rattle.mt515.proofs.Mt515MessageType.optional.Goals as goal

pub returns : goal.returns
returns c = optional-is
