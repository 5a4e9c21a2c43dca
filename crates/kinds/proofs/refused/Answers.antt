-- `kinds::refused` meets its contract. Assumes nothing.
use mathlib.Core.Path.{refl}
use Rattle.lines.specs.Verdicts.{refused}
use Rattle.kinds.proofs.refused.Goals as goal

pub returns : goal.returns
unfolding refused
returns c = refl
