-- `text::put` meets its contract. Assumes nothing.
use Prim.Native.Nat.{◌+◌, ◌<◌}
use mathlib.Core.Path.{refl}
use lib.ListN.{length, length-set}
use lib.Seq.{paste-zero}
use native.Mathlib.Omega.{arith}
use Rattle.text.proofs.Scans.{put_none, put-more, put-done}
use Rattle.text.proofs.put.Goals as goal
use Rattle.text.proofs.put.Goals.{then-buf-at-via-then-buf-at, then-buf-at-via-else-buf-at+then-buf-at-2}

pub returns-then-buf-at : goal.returns-then-buf-at
returns-then-buf-at c =
    let a = c.args in
    let short : length a.buf.now < a.at + length a.part.now =
    elim c.then-buf-at.branch [ then-buf-at-via-then-buf-at w ↦ omega arith | then-buf-at-via-else-buf-at+then-buf-at-2 w ↦ omega arith ]
    in put_none _ _ _ short

pub loop-i-init : goal.loop-i-init
loop-i-init c = (paste-zero c.args.buf.now c.args.at c.args.part.now, refl)

pub loop-i-preserved : goal.loop-i-preserved
loop-i-preserved c =
    let a = c.args in
    (put-more a.buf.now a.at a.part.now _ _ c.loop-i.invariant.0 (omega arith) (omega arith), simp length-set c.loop-i.invariant.1)

pub returns : goal.returns
returns c =
    let a = c.args in
    put-done a.buf.now a.at a.part.now _ _ c.loop-i.invariant.0 (omega arith) (omega arith)
