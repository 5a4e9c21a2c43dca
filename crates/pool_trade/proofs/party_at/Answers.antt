-- `pool_trade::party_at` meets its contract. Assumes nothing.
use Rattle.pool_trade.specs.Records.{party_of}
use Rattle.pool_trade.proofs.party_at.Goals as goal

pub returns : goal.returns
unfolding party_of
returns c = rw (c.text_at.ensures, c.text_at-2.ensures)
