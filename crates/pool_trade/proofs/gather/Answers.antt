-- `pool_trade::gather` meets its contract: the parts are those of the record. Assumes nothing.
use Rattle.pool_trade.specs.Records.{trade_of}
use Rattle.pool_trade.specs.Parts.{details_of, security_of}
use Rattle.pool_trade.proofs.gather.Goals as goal

pub returns : goal.returns
unfolding trade_of details_of security_of
returns c =
    rw (
      c.details_at-money.ensures,
      c.security_at-cdr.ensures,
      c.text_at.ensures,
      c.text_at-2.ensures,
      c.text_at-3.ensures,
      c.text_at-4.ensures,
      c.text_at-5.ensures,
      c.text_at-6.ensures,
      c.party_at.ensures,
      c.party_at-2.ensures,
    )
