-- `layout::lacks_one` meets its contract. The loop's invariant: a mark is lacking from here on exactly when one is from the first row on.
-- Assumes nothing.
use mathlib.Core.Path.{◌≡◌}
use lib.ListN.{drop}
use Rattle.layout.specs.Layout.{lacks}
use Rattle.layout.specs.Rows.{rows_of}
use Rattle.layout.proofs.lacks_one.Given as goal

abbrev pub invariant-loop-i : goal.invariant-loop-i
invariant-loop-i l = lacks l.seen (drop l.i (rows_of l.table)) ≡ lacks l.seen (drop l.row (rows_of l.table))
