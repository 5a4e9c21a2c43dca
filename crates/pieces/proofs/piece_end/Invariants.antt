-- `pieces::piece_end` meets its contract. The loop's invariant: the piece of what is left ends where the piece of the position ends.
-- Assumes nothing.
use Prim.Native.Nat.{◌+◌, ◌-◌}
use mathlib.Core.Path.{◌≡◌}
use lib.ListN.{length, drop}
use Rattle.pieces.specs.Pieces.{piece_of}
use Rattle.pieces.proofs.piece_end.Given as goal

abbrev pub invariant-loop-at : goal.invariant-loop-at
invariant-loop-at l = l.at + length (piece_of (drop l.at l.batch)) ≡ l.position + length (piece_of (drop l.position l.batch))

abbrev pub decreases-loop-at : goal.decreases-loop-at
decreases-loop-at l = length l.batch - l.at
