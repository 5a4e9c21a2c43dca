-- `search::find` meets its contract. Both loops' invariant: what is kept so far says, with the lines ahead, which line is found. The
-- inner loop has passed a line when it ends, so the outer one comes to an end.
-- Assumes nothing.
use Prim.Native.Nat.{◌-◌, ◌≤◌, ◌<◌}
use lib.ListN.{length}
use Rattle.layout.specs.Rows.{rows_of}
use Rattle.search.proofs.Lines.{Kept}
use Rattle.search.proofs.find.Given as goal

abbrev pub invariant-loop-at : goal.invariant-loop-at
invariant-loop-at l = Kept (rows_of l.rows) l.message l.wanted l.seen l.here l.at × (l.initial.at ≤ l.at) × (l.initial.at < length l.message)

abbrev pub decreases-loop-at : goal.decreases-loop-at
decreases-loop-at l = length l.message - l.at

abbrev pub invariant-blocks-2 : goal.invariant-blocks-2
invariant-blocks-2 l = Kept (rows_of l.rows) l.message l.wanted l.seen l.here l.at

abbrev pub decreases-blocks-2 : goal.decreases-blocks-2
decreases-blocks-2 l = length l.message - l.at
