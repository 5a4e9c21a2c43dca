-- `placing::keep` meets its contract. The loop's invariant: what is kept, with what is still ahead, is all. Assumes nothing.
use Rattle.placing.proofs.Keeping.{Same}
use Rattle.placing.proofs.keep.Given as goal

abbrev pub invariant-loop-end : goal.invariant-loop-end
invariant-loop-end l = Same l.initial.places l.ends l.k l.places l.place l.end-index
