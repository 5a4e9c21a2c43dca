-- `trade::details_at` meets its contract: each field is what its function ensures. Assumes nothing.
use Rattle.trade.specs.Records.{trade_of}
use Rattle.trade.specs.Parts.{details_of}
use Rattle.trade.proofs.details_at.Goals as goal

pub returns : goal.returns
unfolding details_of trade_of
returns c =
    rw (
      ← c.moment_at.ensures,
      ← c.date_at.ensures,
      ← c.amount_at.ensures,
      ← c.of.ensures,
      ← c.stretch.ensures,
      ← c.side_in.ensures,
      ← c.stretch-2.ensures,
      ← c.kind_in.ensures,
    )
