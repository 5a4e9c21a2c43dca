-- `pool_trade::security_at` meets its contract: each field is what its function ensures. Assumes nothing.
use Rattle.pool_trade.specs.Records.{trade_of}
use Rattle.pool_trade.specs.Parts.{security_of}
use Rattle.pool_trade.proofs.security_at.Goals as goal

pub returns : goal.returns
unfolding security_of trade_of
returns c =
    rw (
      ← c.stretch-narrative.ensures,
      ← c.amount_at.ensures,
      ← c.of.ensures,
      ← c.text_at.ensures,
      ← c.text_at-2.ensures,
      ← c.has_cdr.ensures,
      ← c.delivery_of.ensures,
      ← c.reason_of.ensures,
    )
