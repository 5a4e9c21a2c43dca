-- What stands between the places of a field is the field, of pool messages. Assumes nothing.
use Rattle.format.proofs.Outline.{stands-in}
use Rattle.pool_values.specs.Pool.{pool}
use Rattle.pool_values.proofs.Laid.{layout}
use Rattle.pool_demands.proofs.Laws.{laws}
use Rattle.pool_demands.proofs.Asked.{fields-are, is-outlined}
use Rattle.pool.specs.Standing.{sender_line, Standing}

pub stands : Standing
stands = stands-in pool sender_line layout laws fields-are is-outlined
