-- `blocks::block` and `blocks::items` meet their contracts. `block` calls `items` at the place that it was given, and `items` calls `block`
-- behind an opening line, so their measures are twice the bytes left, and one more for `block`. The loop's invariant is `Ahead`:
-- the lines that are left are judged as those from the start were.
-- Assumes nothing.
use Prim.Native.Nat.{◌+◌, ◌-◌, ◌*◌}
use lib.ListN.{length}
use Rattle.blocks.proofs.Ways.{Ahead}
use Rattle.blocks.proofs.+block_items.Given as goal

abbrev pub decreases-block : goal.decreases-block
decreases-block l = 2 * (length l.message.now - l.from) + 1

abbrev pub decreases-items : goal.decreases-items
decreases-items l = 2 * (length l.message.now - l.at)

abbrev pub invariant-items-loop-at : goal.invariant-items-loop-at
invariant-items-loop-at l = Ahead l.message l.fn.at l.fn.line l.depth l.name l.at l.line

abbrev pub decreases-items-loop-at : goal.decreases-items-loop-at
decreases-items-loop-at l = length l.message - l.at
