-- `layout::next_step` meets its contract. The loop's invariant: the rows from here on say of the line what those from its place on say,
-- and no more blocks are being passed over than there are rows before this one. Assumes nothing.
use Prim.Native.Nat.{◌≤◌}
use mathlib.Core.Path.{◌≡◌}
use lib.ListN.{drop}
use Rattle.layout.specs.Layout.{scan, step_of}
use Rattle.layout.specs.Rows.{rows_of}
use Rattle.layout.proofs.next_step.Given as goal

abbrev pub invariant-loop-row : goal.invariant-loop-row
invariant-loop-row l = (l.way.here ≡ l.here) × (l.way.deep ≤ l.row) × (scan l.here l.seen l.line l.row (drop l.row (rows_of l.table)) l.way.deep l.way.unmarked l.way.passed ≡ step_of (rows_of l.table) l.here l.seen l.line)
