-- `gateway::netting::pool_next` meets its contract: the answer of `batch::next`, handed out. Assumes nothing.
use native.Mathlib.Omega.{arith}
use mathlib.Core.Path.{ap, ◌∙◌}
use Rattle.pool_trade.specs.declared.PoolTrade.{PoolTrade}
use Rattle.batch.specs.declared.Found.{Found}
use Rattle.gateway.specs.Numbers.{turn_number}
use Rattle.gateway.proofs.PoolHanding.{next-byte}
use Rattle.gateway.proofs.netting.pool_next.Goals as goal

pub overflow_cast-number : goal.overflow_cast-number
overflow_cast-number c = let h = next-byte _ _ _ c.next-answer.ensures in omega (arith, h)

pub returns : goal.returns
returns c =
    let e = c.next-answer.ensures in (
      c.turn_number.ensures ∙ ap (λ (a : Found PoolTrade). turn_number a.turn) e,
      ap (λ (a : Found PoolTrade). a.reading.line) e,
      ap (λ (a : Found PoolTrade). a.position) e,
      ap (λ (a : Found PoolTrade). a.reading.number) e,
    )
