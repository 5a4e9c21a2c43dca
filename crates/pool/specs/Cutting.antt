-- Document 01, "Batch", of pool messages: what calling again and again finds is what batch's specs/Batch says of any message type. Proved in
-- proofs/Cutting.
use Rattle.batch.specs.Batch as AnyType
use Rattle.pool_values.specs.Pool.{pool}

abbrev pub Cutting : Type 0
Cutting = AnyType.Cutting pool
