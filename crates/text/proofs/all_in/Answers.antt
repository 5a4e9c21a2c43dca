use native.Mathlib.Omega.{arith}
use lib.ListN.{length}
use Prim.Native.Nat.{◌≤◌}
use Rattle.text.proofs.Scans.{all_more, all_done}
use Rattle.text.proofs.all_in.Goals as goal

pub loop-byte-preserved : goal.loop-byte-preserved
loop-byte-preserved c = rw c.in_class-good.ensures (all_more _ _ c.loop-byte.good _ c.loop-byte.invariant c.loop-byte-test.true)

pub returns : goal.returns
returns c =
    let h : length c.args.part.now ≤ c.loop-byte.byte-index = omega arith in
    all_done _ _ c.loop-byte.good _ c.loop-byte.invariant h
