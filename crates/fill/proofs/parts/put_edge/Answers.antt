-- `fill::parts::put_edge` meets its contract. Assumes nothing.
use mathlib.Core.List.{[], ◌∷◌}
use Rattle.text.specs.Bytes.{bytes}
use Rattle.fill.proofs.Runs.{one, then}
use Rattle.fill.proofs.parts.put_edge.Goals as goal

pub returns : goal.returns
unfolding bytes
returns c = then _ _ (_ ∷ []) (_ ∷ []) (one _ _ _ c.put-end.ensures) (one _ _ _ c.put.ensures)
