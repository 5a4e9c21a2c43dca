-- `measure::amount_width` meets its contract. Assumes nothing.
use Prim.Native.Nat.{◌+◌}
use mathlib.Core.Path.{refl}
use native.Mathlib.Omega.{arith}
use Rattle.text.proofs.Laws.{rest_of}
use Rattle.measure.proofs.Laws.{amount-told}
use Rattle.measure.proofs.amount_width.Goals as goal

pub returns : goal.returns
returns c =
    amount-told _ _ _ c.if-text-whole-ne44.false c.if-text-whole.false _ (rest_of (c.front-whole.result + 1) _ c.args.text.now refl)
    c.if-whole-lt1.false (omega arith) c.front-whole.ensures.1 c.front-tail.ensures.0 c.front-tail.ensures.1
