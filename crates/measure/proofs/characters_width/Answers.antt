-- `measure::characters_width` meets its contract. Assumes nothing.
use native.Mathlib.Omega.{arith}
use Rattle.measure.proofs.Laws.{characters-told}
use Rattle.measure.proofs.characters_width.Goals as goal

pub returns : goal.returns
returns c = characters-told _ _ _ _ _ c.front-n.ensures.0 c.front-n.ensures.1 (omega arith) (omega arith)
