-- `kinds::tddk_only` meets its contract. Assumes nothing.
use Rattle.kinds.specs.Kinds.{tddk_only}
use Rattle.kinds.proofs.tddk_only.Goals as goal

pub returns : goal.returns
unfolding tddk_only
returns c = rw (← c.contra-contra.ensures, ← c.stray-stray.ensures, ← c.present-reason.ensures)
