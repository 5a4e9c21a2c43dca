-- `vectors::say` meets its contract. Assumes nothing.
use Prim.Native.Nat.{◌≤◌}
use lib.ListN.{length, length-take}
use native.Mathlib.Omega.{arith}
use Rattle.text.proofs.Laws.{after-within, length-placed}
use Rattle.vectors.proofs.say.Goals as goal

pub slice_bounds-out-end : goal.slice_bounds-out-end
slice_bounds-out-end c =
    let within : c.put_text-end.result ≤ length c.put_text-end.new.buf =
    let e = c.put_text-end.ensures in rw (e.0, e.1, length-placed) (after-within _ 0 _ (omega arith))
    in
    within

pub slice_bounds-write_all-end-3 : goal.slice_bounds-write_all-end-3
slice_bounds-write_all-end-3 c =
    let within : c.put_text-end.result ≤ length c.put_text-end.new.buf =
    let e = c.put_text-end.ensures in rw (e.0, e.1, length-placed) (after-within _ 0 _ (omega arith))
    in
    rw length-take (omega arith)
