-- What calling again and again finds, of MT515. Assumes nothing.
use Rattle.batch.proofs.Cutting as AnyType
use Rattle.values.specs.Mt515.{mt515}
use Rattle.demands.proofs.Demands.{any}
use Rattle.mt515.specs.Cutting.{Cutting}

pub cutting : Cutting
cutting = AnyType.cutting mt515 any
