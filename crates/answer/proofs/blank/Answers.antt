-- `answer::blank` meets its contract. Assumes nothing.
use mathlib.Core.Path.{refl}
use Rattle.answer.specs.Records.{no_reason, never, blank_answer}
use Rattle.answer.proofs.blank.Goals as goal

pub returns : goal.returns
unfolding no_reason never blank_answer
returns c = refl
