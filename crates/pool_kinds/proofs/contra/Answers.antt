-- `pool_kinds::contra` meets its contract. Assumes nothing.
use Rattle.pool_kinds.specs.Kinds.{contra, other}
use Rattle.pool_kinds.proofs.contra.Goals as goal

pub returns-in-Buyi : goal.returns-in-Buyi
unfolding contra other
returns-in-Buyi c = rw c.in-Buyi.is c.present.ensures

pub returns-in-Sell : goal.returns-in-Sell
unfolding contra other
returns-in-Sell c = rw c.in-Sell.is c.present-in-Sell.ensures
