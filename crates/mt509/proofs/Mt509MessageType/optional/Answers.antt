-- The MT509's `optional` meets its contract. Assumes nothing.
use Rattle.mt509.proofs.Optional.{optional-is}
use Rattle.mt509.proofs.Mt509MessageType.optional.Goals as goal

pub returns : goal.returns
returns c = optional-is
