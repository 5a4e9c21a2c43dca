-- `trade::security_at` meets its contract: each field is what its function ensures. Assumes nothing.
use Rattle.trade.specs.Records.{trade_of}
use Rattle.trade.specs.Parts.{security_of}
use Rattle.trade.proofs.security_at.Goals as goal

pub returns : goal.returns
unfolding security_of trade_of
returns c =
    rw (
      ← c.stretch-narrative.ensures,
      ← c.amount_at.ensures,
      ← c.of.ensures,
      ← c.text_at.ensures,
      ← c.text_at-2.ensures,
      ← c.service_of.ensures,
      ← c.period_of.ensures,
      ← c.reason_of.ensures,
    )
