-- `lines::check_lines` meets its contract. The loop's invariant: what is left answers, behind the lines that are known, as the whole message does.
-- Assumes nothing.
use Prim.Native.Nat.{◌-◌, ◌≤◌}
use mathlib.Core.Path.{◌≡◌}
use lib.ListN.{length}
use Rattle.std.specs.Prelude.{None}
use Rattle.lines.proofs.Scans.{left}
use Rattle.lines.proofs.check_lines.Given as goal

abbrev pub invariant-loop-at : goal.invariant-loop-at
invariant-loop-at l = (l.at ≤ length l.message) × (l.line ≤ l.at) × (left l.message l.line l.end l.at ≡ left l.message 0 None 0)

abbrev pub decreases-loop-at : goal.decreases-loop-at
decreases-loop-at l = length l.message - l.at
