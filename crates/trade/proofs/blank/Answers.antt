-- `trade::blank` meets its contract. Assumes nothing.
use mathlib.Core.Path.{refl}
use Rattle.trade.specs.Records.{nobody, never, blank_trade}
use Rattle.trade.proofs.blank.Goals as goal

pub returns : goal.returns
unfolding nobody never blank_trade
returns c = refl
