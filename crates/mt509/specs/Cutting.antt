-- Document 01, "Batch", of MT509: what calling again and again finds is what batch's specs/Batch says of any message type. Proved in
-- proofs/Cutting.
use Rattle.batch.specs.Batch as AnyType
use Rattle.answer_values.specs.Mt509.{mt509}

abbrev pub Cutting : Type 0
Cutting = AnyType.Cutting mt509
