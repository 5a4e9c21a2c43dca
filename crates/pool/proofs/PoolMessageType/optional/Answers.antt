-- `optional` of the MT515 of pool netting meets its contract. Assumes nothing.
use Rattle.pool.proofs.Optional.{optional-is}
use Rattle.pool.proofs.PoolMessageType.optional.Goals as goal

pub returns : goal.returns
returns c = optional-is
