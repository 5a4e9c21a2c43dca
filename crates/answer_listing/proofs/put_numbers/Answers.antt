-- `answer_listing::put_numbers` meets its contract: field behind field. Assumes nothing.
use Rattle.fill.proofs.Runs.{then}
use Rattle.answer_listing.specs.Composed.{number_parts}
use Rattle.answer_listing.proofs.put_numbers.Goals as goal

pub returns : goal.returns
unfolding number_parts
returns c = then _ _ _ _ c.put_field-number.ensures (then _ _ _ _ c.put_field-place.ensures c.put_field.ensures)
