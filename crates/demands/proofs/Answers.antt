-- What two programs that keep one promise have in common: all of it. Assumes nothing.
use mathlib.Core.Path.{sym, ◌∙◌}
use Rattle.demands.specs.Answers.{OneAnswer, OneOutcome}

pub one_answer : OneAnswer
one_answer A promised r s e f = e ∙ sym f

pub one-outcome : OneOutcome
one-outcome A B promised r s left b c e f = (one_answer A promised r s e.0 f.0, one_answer B left b c e.1 f.1)
