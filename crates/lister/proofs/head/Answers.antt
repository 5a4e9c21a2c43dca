-- `lister::head` meets its contract. Assumes nothing.
use Prim.Native.Nat.{◌≤◌}
use lib.ListN.{length, length-take}
use native.Mathlib.Omega.{arith}
use Rattle.lister.proofs.Laws.{ends-within}
use Rattle.lister.proofs.head.Goals as goal

pub slice_bounds-heading-end : goal.slice_bounds-heading-end
slice_bounds-heading-end c =
    let within : c.put_heading-end.result ≤ length c.put_heading-end.new.buf =
    (ends-within _ _ c.put_heading-end.ensures.0 c.put_heading-end.ensures.1).0
    in
    within

pub slice_bounds-write_all-end : goal.slice_bounds-write_all-end
slice_bounds-write_all-end c =
    let within : c.put_heading-end.result ≤ length c.put_heading-end.new.buf =
    (ends-within _ _ c.put_heading-end.ensures.0 c.put_heading-end.ensures.1).0
    in
    let h = within in rw length-take (omega arith)
