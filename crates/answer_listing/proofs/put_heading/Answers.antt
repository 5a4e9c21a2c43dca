-- `answer_listing::put_heading` meets its contract. Assumes nothing.
use Rattle.text.specs.Bytes.{bytes}
use Rattle.listing.specs.Rows.{spaced}
use Rattle.answer_listing.specs.Rows.{heading}
use Rattle.answer_listing.proofs.put_heading.Goals as goal

pub returns : goal.returns
unfolding bytes spaced heading
returns c = c.put.ensures
