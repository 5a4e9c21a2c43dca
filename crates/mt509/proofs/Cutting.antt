-- What calling again and again finds, of MT509. Assumes nothing.
use Rattle.batch.proofs.Cutting as AnyType
use Rattle.answer_values.specs.Mt509.{mt509}
use Rattle.answer_demands.proofs.Demands.{holds}
use Rattle.mt509.specs.Cutting.{Cutting}

pub cutting : Cutting
cutting = AnyType.cutting mt509 holds
