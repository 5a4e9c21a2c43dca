-- `gateway::mt515_write` meets its contract: the answer of `unpacked::write`, handed out. Assumes nothing.
use native.Mathlib.Omega.{arith}
use mathlib.Core.Path.{ap}
use Rattle.writing.specs.declared.Writing.{Writing}
use Rattle.gateway.proofs.Handing.{write_byte}
use Rattle.gateway.proofs.mt515_write.Goals as goal

pub overflow_cast-result : goal.overflow_cast-result
overflow_cast-result c = let h = write_byte _ _ _ c.write-writing.ensures.0 in omega (arith, h)

pub returns : goal.returns
returns c = let e = c.write-writing.ensures in (ap (λ (w : Writing). w.number) e.0, ap (λ (w : Writing). w.length) e.0, e.1)
