-- `fitting::row_for` meets its contract. The loop's invariant: the rows from here on say of the first line what those from its place on say,
-- and no more blocks are being passed over than there are rows before this one. Assumes nothing.
use Prim.Native.Nat.{◌≤◌}
use Rattle.fitting.proofs.Glimpses.{Onward}
use Rattle.fitting.proofs.row_for.Given as goal

abbrev pub invariant-loop-row : goal.invariant-loop-row
invariant-loop-row l = (l.deep ≤ l.row) × Onward l.table l.here l.seen l.text l.row l.deep l.unmarked
