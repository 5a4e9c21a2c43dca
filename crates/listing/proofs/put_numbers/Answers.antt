-- `listing::put_numbers` meets its contract: field behind field. Assumes nothing.
use Rattle.fill.proofs.Runs.{then}
use Rattle.listing.proofs.put_numbers.Goals as goal

pub returns : goal.returns
returns c = then _ _ _ _ c.put_field-number.ensures (then _ _ _ _ c.put_field-place.ensures c.put_field.ensures)
