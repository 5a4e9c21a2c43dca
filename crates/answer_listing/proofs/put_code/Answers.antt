-- `answer_listing::put_code` meets its contract. Assumes nothing.
use mathlib.Core.List.{[], ◌∷◌}
use Rattle.fill.proofs.Runs.{one, then}
use Rattle.answer_listing.proofs.put_code.Goals as goal

pub returns : goal.returns
returns c = then _ _ (_ ∷ []) (_ ∷ []) (one _ _ _ c.put-end.ensures) (one _ _ _ c.put_text.ensures)
