-- `answers::list` meets its contract. The loop's invariant: so many messages were counted as there are bytes behind, at most. The
-- measure is what is left of the batch. Assumes nothing.
use Prim.Native.Nat.{◌≤◌, ◌+◌, ◌-◌}
use mathlib.Core.Path.{◌≡◌}
use lib.ListN.{length}
use Rattle.answers.proofs.list.Given as goal

abbrev pub invariant-loop-position : goal.invariant-loop-position
invariant-loop-position l = (l.position ≤ length l.batch) × (l.message ≤ l.position + 1) × (length l.row ≡ 357)

abbrev pub decreases-loop-position : goal.decreases-loop-position
decreases-loop-position l = length l.batch - l.position
