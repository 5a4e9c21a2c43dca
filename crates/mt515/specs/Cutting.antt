-- Document 01, "Batch", of MT515: what calling again and again finds is what batch's specs/Batch says of any message type. Proved in
-- proofs/Cutting.
use Rattle.batch.specs.Batch as AnyType
use Rattle.values.specs.Mt515.{mt515}

abbrev pub Cutting : Type 0
Cutting = AnyType.Cutting mt515
