-- `unpacked::codes::side_from` meets its contract. Assumes nothing.
use mathlib.Core.List.{[], ◌∷◌}
use native.Mathlib.Omega.{arith}
use Rattle.typed.specs.declared.Side.{Side}
use Rattle.unpacked.specs.Unpacked.{side_from}
use Rattle.typed.proofs.Laws.{first_else}
use Rattle.unpacked.proofs.codes.side_from.Goals as goal

pub returns-in-1 : goal.returns-in-1
unfolding side_from
returns-in-1 c = rw c.in-1.is

pub returns-in_default : goal.returns-in_default
unfolding side_from
returns-in_default c = first_else Side.Buyi (Side.Sell ∷ []) c.args.byte (λ p. omega arith)
