-- `blocks::nesting` meets its contract. Assumes nothing.
use native.Mathlib.Omega.{arith}
use Rattle.lines.specs.Verdicts.{refused, pass}
use Rattle.lines.proofs.Laws.{Begins, begins}
use Rattle.blocks.proofs.Ways.{nest-good, nest-wrong}
use Rattle.blocks.proofs.nesting.Goals as goal

pub items-requires : goal.items-requires
items-requires c =
    let m = c.args.message.now in
    let b : Begins m 4 c.behind.result = rw c.behind.ensures (begins m 4) in
    (b.within, omega arith)

pub returns-in-Ok : goal.returns-in-Ok
unfolding refused pass
returns-in-Ok c =
    let m = c.args.message.now in
    let b : Begins m 4 c.behind.result = rw c.behind.ensures (begins m 4) in
    nest-good _ _ b.rest _ c.in-Ok.ensures

pub returns-in-Err : goal.returns-in-Err
returns-in-Err c =
    let m = c.args.message.now in
    let b : Begins m 4 c.behind.result = rw c.behind.ensures (begins m 4) in
    nest-wrong _ _ b.rest _ c.in-Err.ensures
