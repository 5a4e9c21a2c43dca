-- `security::sum` meets its contract. The loop's invariant: what was added and what is left make the sum, and each place added at most 16.
-- Assumes nothing.
use Prim.Native.Nat.{◌+◌, ◌*◌, ◌≤◌}
use mathlib.Core.Path.{◌≡◌}
use lib.ListN.{length, drop}
use Rattle.security.specs.Security.{sum_from}
use Rattle.security.proofs.sum.Given as goal

abbrev pub invariant-loop-i : goal.invariant-loop-i
invariant-loop-i l = (l.sum ≤ 16 * l.i) × (l.sum + sum_from (l.i + 1) (drop l.i l.part) ≡ sum_from 1 l.part) × (length l.part ≤ 9)
