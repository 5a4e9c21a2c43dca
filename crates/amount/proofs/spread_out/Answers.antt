-- `amount::spread_out` meets its contract. Assumes nothing.
use native.Mathlib.Omega.{arith}
use mathlib.Core.Path.{◌≡◌}
use lib.ListN.{length, length-take}
use Rattle.amount.proofs.Noughts.{spread_line}
use borrow.Author.Rules.{rules}
use Rattle.amount.proofs.spread_out.Goals as goal

pub slice_bounds-put-end-2 : goal.slice_bounds-put-end-2
slice_bounds-put-end-2 c =
    let n : length c.put_digits.new.buf ≡ 14 = search rules in
    rw length-take (omega arith)

pub returns : goal.returns
returns c = spread_line c.args.number c.args.decimals _ _ _ c.requires c.put_digits.ensures.1 c.put.ensures.1 c.put-2.ensures.1
