-- The parts of a record that are gathered by themselves. They serve the private functions only, and need not be believed.
use Rattle.pool_trade.specs.declared.PoolTrade.{PoolTrade}
use Rattle.pool_trade.specs.declared.Details.{Details}
use Rattle.pool_trade.specs.declared.Security.{Security}

unfoldable pub details_of : PoolTrade → Details
details_of t = record { trad = t.trad; sett = t.sett; price = t.price; money = t.money; side = t.side; kind = t.kind }

unfoldable pub security_of : PoolTrade → Security
security_of t =
    record { par = t.par; cusip = t.cusip; pool = t.pool; cdr = t.cdr; delivery = t.delivery; reason = t.reason }
