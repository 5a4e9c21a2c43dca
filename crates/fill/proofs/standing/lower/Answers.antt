-- `fill::standing::lower` meets its contract. Assumes nothing.
use Rattle.fill.proofs.Rows.{lower-is}
use Rattle.fill.specs.Filling.{lower}
use Rattle.fill.proofs.standing.lower.Goals as goal

pub returns-then-deep-eq0 : goal.returns-then-deep-eq0
unfolding lower
returns-then-deep-eq0 c = rw c.if-deep-eq0.true

pub returns-else-deep-eq0 : goal.returns-else-deep-eq0
returns-else-deep-eq0 c = lower-is _ c.if-deep-eq0.false
