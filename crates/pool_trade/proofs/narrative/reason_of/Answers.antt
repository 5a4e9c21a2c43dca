-- `pool_trade::narrative::reason_of` meets its contract. Assumes nothing.
use Rattle.pool_trade.specs.Narrative.{reason_of}
use Rattle.pool_trade.proofs.narrative.reason_of.Goals as goal

pub returns : goal.returns
unfolding reason_of
returns c = rw (← c.behind_delivery.ensures, ← c.code_in.ensures, ← c.of.ensures)
