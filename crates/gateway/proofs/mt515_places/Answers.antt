-- `gateway::mt515_places` meets its contract: the answer of `outline::of`, handed out. Assumes nothing.
use native.Mathlib.Omega.{arith}
use mathlib.Core.Path.{ap}
use Rattle.outline.specs.declared.Outline.{Outline}
use Rattle.gateway.proofs.Handing.{places-byte}
use Rattle.gateway.proofs.mt515_places.Goals as goal

pub overflow_cast-result : goal.overflow_cast-result
overflow_cast-result c = let h = places-byte _ _ c.of-all.ensures in omega (arith, h)

pub returns : goal.returns
returns c =
    let e = c.of-all.ensures in (
      ap (λ (a : Outline 24). a.number) e,
      ap (λ (a : Outline 24). a.starts) e,
      ap (λ (a : Outline 24). a.ends) e,
      ap (λ (a : Outline 24). a.line) e,
    )
