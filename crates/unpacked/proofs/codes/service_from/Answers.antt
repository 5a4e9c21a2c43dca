-- `unpacked::codes::service_from` meets its contract. Assumes nothing.
use mathlib.Core.List.{[], ◌∷◌}
use native.Mathlib.Omega.{arith}
use Rattle.trade.specs.declared.Service.{Service}
use Rattle.unpacked.specs.Unpacked.{service_from}
use Rattle.typed.proofs.Laws.{first_else}
use Rattle.unpacked.proofs.codes.service_from.Goals as goal

pub returns-in-1 : goal.returns-in-1
unfolding service_from
returns-in-1 c = rw c.in-1.is

pub returns-in-2 : goal.returns-in-2
unfolding service_from
returns-in-2 c = rw c.in-2.is

pub returns-in_default : goal.returns-in_default
unfolding service_from
returns-in_default c = first_else Service.Sbod (Service.Tftd ∷ Service.Stip ∷ []) c.args.byte (λ p. omega arith)
