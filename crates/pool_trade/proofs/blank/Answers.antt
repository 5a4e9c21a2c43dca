-- `pool_trade::blank` meets its contract. Assumes nothing.
use mathlib.Core.Path.{refl}
use Rattle.pool_trade.specs.Records.{nobody, blank_trade}
use Rattle.pool_trade.proofs.blank.Goals as goal

pub returns : goal.returns
unfolding nobody blank_trade
returns c = refl
