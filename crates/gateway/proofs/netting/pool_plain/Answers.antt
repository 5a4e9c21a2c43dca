-- `gateway::netting::pool_plain` meets its contract: the answer of `plain::plain`, handed out. Assumes nothing.
use native.Mathlib.Omega.{arith}
use mathlib.Core.Path.{ap}
use Rattle.gateway.proofs.PoolHanding.{plain_byte}
use Rattle.gateway.proofs.netting.pool_plain.Goals as goal

pub overflow_cast-result : goal.overflow_cast-result
overflow_cast-result c = let h = plain_byte _ _ _ c.plain-asking.ensures.0 in omega (arith, h)

pub returns : goal.returns
returns c = let e = c.plain-asking.ensures in (ap (λ a. a.number) e.0, ap (λ a. a.line) e.0, ap (λ a. a.length) e.0, e.1)
