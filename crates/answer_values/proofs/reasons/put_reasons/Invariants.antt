-- `answer_values::reasons::put_reasons` meets its contract. The loop's invariant: the values of the first reasons were put. Assumes nothing.
use Rattle.answer_values.proofs.Puts.{SoFar}
use Rattle.answer_values.proofs.reasons.put_reasons.Given as goal

abbrev pub invariant-loop-number : goal.invariant-loop-number
invariant-loop-number l = SoFar l.answer l.initial.text l.initial.places l.at l.number l.behind l.text l.places
