-- `stretches::hand_out` meets its contract. The loop's invariant: what is written, with what is still ahead, is all. Assumes nothing.
use Rattle.stretches.proofs.Handing.{Same}
use Rattle.stretches.proofs.hand_out.Given as goal

abbrev pub invariant-loop-field : goal.invariant-loop-field
invariant-loop-field l = Same l.narrative l.begun l.ended l.slots l.initial.starts l.initial.ends l.starts l.ends l.field
