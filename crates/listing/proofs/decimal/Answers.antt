-- `listing::decimal` meets its contract. Assumes nothing.
use Prim.Native.Nat.{◌≤◌}
use lib.ListN.{length-take}
use native.Mathlib.Omega.{arith}
use Rattle.listing.proofs.Laws.{all-long, lead-within, number_is}
use Rattle.listing.proofs.decimal.Goals as goal

pub slice_bounds-leading-end : goal.slice_bounds-leading-end
slice_bounds-leading-end c =
    let l = all-long _ _ c.put_digits.ensures.1 in
    rw length-take (omega arith)

pub slice_bounds-of-count : goal.slice_bounds-of-count
slice_bounds-of-count c =
    let lead : c.leading-from.result ≤ 20 =
    lead-within _ _ c.put_digits.ensures.1 _ c.leading-from.ensures
    in
    lead

pub slice_bounds-of-start : goal.slice_bounds-of-start
slice_bounds-of-start c =
    let lead : c.leading-from.result ≤ 20 =
    lead-within _ _ c.put_digits.ensures.1 _ c.leading-from.ensures
    in
    lead

pub returns : goal.returns
returns c = number_is _ _ c.put_digits.ensures.1 _ c.leading-from.ensures _ c.of.ensures
