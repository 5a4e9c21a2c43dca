-- `packed::codes::period_byte` meets its contract. Assumes nothing.
use Prim.Native.Nat.{◌≤◌}
use native.Mathlib.Omega.{arith}
use Rattle.packed.specs.Packed.{period_byte}
use Rattle.packed.proofs.Laws.{at-most-le}
use Rattle.packed.proofs.codes.period_byte.Goals as goal

pub overflow_cast-result : goal.overflow_cast-result
overflow_cast-result c = let l : c.at_most.result ≤ 254 = rw c.at_most.ensures (at-most-le 254 _) in omega arith

pub returns-in-None : goal.returns-in-None
unfolding period_byte
returns-in-None c = rw c.in-None.is

pub returns-in-Some : goal.returns-in-Some
unfolding period_byte
returns-in-Some c = rw c.in-Some.is c.at_most.ensures
