use native.Mathlib.Omega.{arith}
use Rattle.digits.proofs.Spelling.{ten-out, ten-more, ten-small, ten-in}
use Rattle.digits.proofs.ten_to.Goals as goal

pub returns-then-places-gt14 : goal.returns-then-places-gt14
returns-then-places-gt14 c = ten-out _ c.if-places-gt14.true

pub overflow_mul-power : goal.overflow_mul-power
overflow_mul-power c = omega (arith, ten-small _ _ c.loop-place.invariant (omega arith))

pub loop-place-preserved : goal.loop-place-preserved
loop-place-preserved c = ten-more _ _ c.loop-place.invariant

pub returns : goal.returns
returns c = ten-in _ _ _ (omega arith) (omega arith) c.loop-place.invariant
