-- `amount::needless` meets its contract. Assumes nothing.
use native.Mathlib.Omega.{arith}
use lib.ListN.{length-take}
use Rattle.amount.proofs.Shortening.{none-needless}
use Rattle.amount.proofs.needless.Goals as goal

pub returns-then-n-eq0 : goal.returns-then-n-eq0
returns-then-n-eq0 c = none-needless c.args.whole.now c.if-n-eq0.true

pub slice_bounds-leading-length : goal.slice_bounds-leading-length
slice_bounds-leading-length c = rw length-take (omega arith)
