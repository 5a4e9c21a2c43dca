-- `digits::front` meets its contract. The loop's invariant: the number so far and the digits ahead spell those in front.
-- Assumes nothing.
use Rattle.digits.proofs.Spelling.{Ahead}
use Rattle.digits.proofs.front.Given as goal

abbrev pub invariant-loop-len : goal.invariant-loop-len
invariant-loop-len l = Ahead l.part l.number l.len
