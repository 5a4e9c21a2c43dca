-- `pool_kinds::stray` meets its contract. Assumes nothing.
use Rattle.pool_kinds.specs.Kinds.{stray, own}
use Rattle.pool_kinds.proofs.stray.Goals as goal

pub returns-in-Buyi : goal.returns-in-Buyi
unfolding stray own
returns-in-Buyi c = rw c.in-Buyi.is c.present.ensures

pub returns-in-Sell : goal.returns-in-Sell
unfolding stray own
returns-in-Sell c = rw c.in-Sell.is c.present-in-Sell.ensures
