-- `lines::behind` meets its contract. The loop's invariant: the place is behind the lines that were counted.
-- Assumes nothing.
use mathlib.Core.Path.{◌≡◌}
use Rattle.lines.specs.Lines.{start_behind}
use Rattle.lines.proofs.behind.Given as goal

abbrev pub invariant-loop : goal.invariant-loop
invariant-loop l = l.at ≡ start_behind l.message l.counter
