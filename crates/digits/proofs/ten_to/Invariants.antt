-- `digits::ten_to` meets its contract. The loop's invariant: the number is the power of the places so far.
-- Assumes nothing.
use Prim.Native.Nat.{◌^◌}
use mathlib.Core.Path.{◌≡◌}
use Rattle.digits.proofs.ten_to.Given as goal

abbrev pub invariant-loop-place : goal.invariant-loop-place
invariant-loop-place l = l.power ≡ 10 ^ l._place
