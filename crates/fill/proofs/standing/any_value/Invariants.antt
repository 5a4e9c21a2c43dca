-- `fill::standing::any_value` meets its contract. Assumes nothing.
use Prim.Native.Nat.{◌+◌, ◌≤◌}
use mathlib.Core.Path.{◌≡◌}
use lib.ListN.{drop}
use Rattle.layout.specs.Rows.{rows_of}
use Rattle.fill.specs.Filling.{lent, behind_at, any_rows}
use Rattle.fill.proofs.standing.any_value.Given as goal

abbrev pub invariant-loop-i : goal.invariant-loop-i
invariant-loop-i l = (any_rows (behind_at (lent l.slots l.optional l.text l.starts l.ends)) l.deep (drop l.i (rows_of l.rows)) ≡ any_rows (behind_at (lent l.slots l.optional l.text l.starts l.ends)) 1 (drop l.row (rows_of l.rows))) × (l.deep ≤ l.i + 1)
