-- What is still ahead moves in the rest.
use Rattle.plain.proofs.Moves.{Ahead}
use Rattle.plain.proofs.move_amounts.Given as goal

abbrev pub invariant-loop-slot : goal.invariant-loop-slot
invariant-loop-slot g l = Ahead l.message l.slot-items l.fn.starts l.fn.ends l.slot-index l.starts l.ends
