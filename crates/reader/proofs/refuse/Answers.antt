-- `reader::refuse` meets its contract. Assumes nothing.
use mathlib.Core.Path.{refl}
use Rattle.reader.specs.Take.{placeless}
use Rattle.reader.proofs.refuse.Goals as goal

pub returns : goal.returns
unfolding placeless
returns c = refl
