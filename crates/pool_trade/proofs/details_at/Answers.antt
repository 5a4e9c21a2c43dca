-- `pool_trade::details_at` meets its contract: each field is what its function ensures. Assumes nothing.
use Rattle.pool_trade.specs.Records.{trade_of}
use Rattle.pool_trade.specs.Parts.{details_of}
use Rattle.pool_trade.proofs.details_at.Goals as goal

pub returns : goal.returns
unfolding details_of trade_of
returns c =
    rw (
      ← c.moment_at.ensures,
      ← c.date_at.ensures,
      ← c.amount_at.ensures,
      ← c.of.ensures,
      ← c.payment_at.ensures,
      ← c.stretch.ensures,
      ← c.side_in.ensures,
      ← c.stretch-2.ensures,
      ← c.kind_in.ensures,
    )
