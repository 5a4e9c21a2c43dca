-- `pool_table::heads` meets its contract, by computation. Assumes nothing.
use mathlib.Core.Path.{refl}
use Rattle.pool_table.specs.Table.{header}
use Rattle.pool_table.proofs.heads.Goals as goal

pub returns : goal.returns
unfolding header
returns c = refl
