use Rattle.text.proofs.Codes.{code-most}
use native.Mathlib.Omega.{arith}
use Rattle.security.proofs.Sums.{code_at, sum-all, sum_more, sum_done}
use Rattle.security.proofs.sum.Goals as goal

pub loop-i-init : goal.loop-i-init
loop-i-init c = (omega arith, sum-all _, code-most 9 9 _ c.requires)

pub adds-sum-requires : goal.adds-sum-requires
adds-sum-requires c = code_at 9 9 _ _ c.requires c.loop-i-test.true

pub loop-i-preserved : goal.loop-i-preserved
loop-i-preserved c =
    let a = c.adds-sum.ensures in
    let v = c.loop-i.invariant in
    (omega (arith, v.0, a.1), rw a.0 (sum_more _ _ _ v.1 c.loop-i-test.true), v.2)

pub returns : goal.returns
returns c = sum_done _ _ _ c.loop-i.invariant.1 c.loop-i-test.false
