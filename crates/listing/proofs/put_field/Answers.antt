-- `listing::put_field` meets its contract. Assumes nothing.
use mathlib.Core.List.{[], ◌∷◌}
use Rattle.text.specs.Bytes.{bytes}
use Rattle.fill.proofs.Runs.{one, then}
use Rattle.listing.proofs.put_field.Goals as goal

pub returns : goal.returns
unfolding bytes
returns c = then _ _ (_ ∷ []) (_ ∷ []) (one _ _ _ c.put_text-end.ensures) (one _ _ _ c.put.ensures)
