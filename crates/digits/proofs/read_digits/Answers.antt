-- `digits::read_digits` meets its contract. Assumes nothing.
use Rattle.digits.proofs.Spelling.{ran-of, whole_run, part-run}
use Rattle.digits.proofs.read_digits.Goals as goal

pub returns-then-run-part : goal.returns-then-run-part
returns-then-run-part c = whole_run _ _ _ (ran-of _ _ c.front-run.ensures) c.if-run-part.true

pub returns-else-run-part : goal.returns-else-run-part
returns-else-run-part c = part-run _ _ _ (ran-of _ _ c.front-run.ensures) c.if-run-part.false
