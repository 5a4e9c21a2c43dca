-- `unpacked::codes::kind_from` meets its contract. Assumes nothing.
use mathlib.Core.List.{[], ◌∷◌}
use native.Mathlib.Omega.{arith}
use Rattle.trade.specs.declared.Kind.{Kind}
use Rattle.unpacked.specs.Unpacked.{kind_from}
use Rattle.typed.proofs.Laws.{first_else}
use Rattle.unpacked.proofs.codes.kind_from.Goals as goal

pub returns-in-1 : goal.returns-in-1
unfolding kind_from
returns-in-1 c = rw c.in-1.is

pub returns-in-2 : goal.returns-in-2
unfolding kind_from
returns-in-2 c = rw c.in-2.is

pub returns-in-3 : goal.returns-in-3
unfolding kind_from
returns-in-3 c = rw c.in-3.is

pub returns-in_default : goal.returns-in_default
unfolding kind_from
returns-in_default c = first_else Kind.Inst (Kind.Canc ∷ Kind.Mdfc ∷ Kind.Tddk ∷ []) c.args.byte (λ p. omega arith)
