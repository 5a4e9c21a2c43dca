-- `listing::put_row` meets its contract. Assumes nothing.
-- where the row ends in the line, and that the line is as long as it was
use Prim.Native.Nat.{◌≤◌}
use mathlib.Core.Path.{◌≡◌, refl}
use lib.ListN.{length, length-take}
use native.Mathlib.Omega.{arith}
use Rattle.listing.proofs.Laws.{ends-within, now-long, stands, row-most}
use Rattle.listing.proofs.put_row.Goals as goal

pub slice_bounds-line-end : goal.slice_bounds-line-end
slice_bounds-line-end c =
    let within : (c.compose-end.result ≤ 147) × (length c.compose-end.new.line ≡ 147) =
    let e = c.compose-end.ensures in
    let w = c.row_of-row.ensures in
    (ends-within _ _ _ w _ refl (e.0, e.1) e.2, now-long _ _ _ w _ refl (e.0, e.1) e.2)
    in
    let h = within in omega arith

pub slice_bounds-put-end : goal.slice_bounds-put-end
slice_bounds-put-end c =
    let within : (c.compose-end.result ≤ 147) × (length c.compose-end.new.line ≡ 147) =
    let e = c.compose-end.ensures in
    let w = c.row_of-row.ensures in
    (ends-within _ _ _ w _ refl (e.0, e.1) e.2, now-long _ _ _ w _ refl (e.0, e.1) e.2)
    in
    let h = within in rw length-take (omega arith)

pub returns : goal.returns
returns c =
    let w = c.row_of-row.ensures in
    let r = c.compose-end.ensures in
    let e = c.put.ensures in
    rw (← stands _ _ _ w _ refl (r.0, r.1) r.2) (e.0, e.1, rw (stands _ _ _ w _ refl (r.0, r.1) r.2) (row-most _ _ _ w _ refl (r.0, r.1) r.2))
