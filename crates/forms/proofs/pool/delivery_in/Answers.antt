-- `forms::pool::delivery_in` meets its contract. Assumes nothing.
use mathlib.Core.Path.{◌∙◌}
use native.Mathlib.Omega.{arith}
use lib.ListN.{length-take}
use Rattle.text.proofs.Laws.{before-front, before-length}
use Rattle.forms.specs.Pool.{delivery_in}
use Rattle.forms.proofs.pool.delivery_in.Goals as goal

pub slice_bounds-result-end : goal.slice_bounds-result-end
slice_bounds-result-end c = let l = before-length 47 c.from-date.result.now in let e = c.find.ensures in rw length-take (omega arith)

pub returns : goal.returns
unfolding delivery_in
returns c = rw c.find.ensures (before-front 47 c.from-date.result.now ∙ rw (c.from-date.ensures, c.behind_cdr.ensures))
