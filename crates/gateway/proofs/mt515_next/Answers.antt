-- `gateway::mt515_next` meets its contract: the answer of `batch::next`, handed out. Assumes nothing.
use native.Mathlib.Omega.{arith}
use mathlib.Core.Path.{ap, ◌∙◌}
use Rattle.trade.specs.declared.Trade.{Trade}
use Rattle.batch.specs.declared.Found.{Found}
use Rattle.packed.specs.Packed.{packed_of}
use Rattle.gateway.specs.Numbers.{turn_number}
use Rattle.gateway.proofs.Handing.{next-byte}
use Rattle.gateway.proofs.mt515_next.Goals as goal

pub overflow_cast-number : goal.overflow_cast-number
overflow_cast-number c = let h = next-byte _ _ _ c.next-answer.ensures in omega (arith, h)

pub returns : goal.returns
returns c =
    let e = c.next-answer.ensures in (
      c.turn_number.ensures ∙ ap (λ (a : Found Trade). turn_number a.turn) e,
      c.pack.ensures ∙ ap (λ (a : Found Trade). packed_of a.reading.held) e,
      ap (λ (a : Found Trade). a.reading.line) e,
      ap (λ (a : Found Trade). a.position) e,
      ap (λ (a : Found Trade). a.reading.number) e,
    )
