-- The parts of a record that are gathered by themselves. They serve the private functions only, and need not be believed.
use Rattle.trade.specs.declared.Trade.{Trade}
use Rattle.trade.specs.declared.Details.{Details}
use Rattle.trade.specs.declared.Security.{Security}

unfoldable pub details_of : Trade → Details
details_of t = record { trad = t.trad; sett = t.sett; price = t.price; side = t.side; kind = t.kind }

unfoldable pub security_of : Trade → Security
security_of t =
    record { par = t.par; cusip = t.cusip; pool = t.pool; service = t.service; period = t.period; reason = t.reason }
