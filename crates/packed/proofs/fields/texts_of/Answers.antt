-- `packed::fields::texts_of` meets its contract. Assumes nothing.
use mathlib.Core.Path.{refl}
use Rattle.packed.specs.Packed.{texts}
use Rattle.packed.proofs.fields.texts_of.Goals as goal

pub returns : goal.returns
unfolding texts
returns c = refl
