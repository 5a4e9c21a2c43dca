-- `kinds::tddk_never` meets its contract. Assumes nothing.
use Rattle.kinds.specs.Kinds.{tddk_never}
use Rattle.kinds.proofs.tddk_never.Goals as goal

pub returns : goal.returns
unfolding tddk_never
returns c = rw (← c.present-mast.ensures, ← c.present-prev.ensures, ← c.present-list.ensures, ← c.stray-stray.ensures, ← c.is_some-days.ensures)
