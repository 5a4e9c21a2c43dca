-- `gateway::mt515_read` meets its contract: the answer of `reading::read`, handed out. Assumes nothing.
use native.Mathlib.Omega.{arith}
use mathlib.Core.Path.{ap, ◌∙◌}
use Rattle.trade.specs.declared.Trade.{Trade}
use Rattle.format.specs.declared.Reading.{Reading}
use Rattle.packed.specs.Packed.{packed_of}
use Rattle.gateway.proofs.Handing.{read_byte}
use Rattle.gateway.proofs.mt515_read.Goals as goal

pub overflow_cast-result : goal.overflow_cast-result
overflow_cast-result c = let h = read_byte _ _ c.read-reading.ensures in omega (arith, h)

pub returns : goal.returns
returns c =
    let e = c.read-reading.ensures in
    (ap (λ (r : Reading Trade). r.number) e, c.pack.ensures ∙ ap (λ (r : Reading Trade). packed_of r.held) e, ap (λ (r : Reading Trade). r.line) e)
