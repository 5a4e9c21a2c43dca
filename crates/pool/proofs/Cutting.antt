-- What calling again and again finds, of pool messages. Assumes nothing.
use Rattle.batch.proofs.Cutting as AnyType
use Rattle.pool_values.specs.Pool.{pool}
use Rattle.pool_demands.proofs.Demands.{holds}
use Rattle.pool.specs.Cutting.{Cutting}

pub cutting : Cutting
cutting = AnyType.cutting pool holds
