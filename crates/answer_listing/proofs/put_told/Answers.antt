-- `answer_listing::put_told` meets its contract: field behind field. Assumes nothing.
use Rattle.fill.proofs.Runs.{one, then}
use Rattle.answer_listing.specs.Composed.{told_parts}
use Rattle.answer_listing.proofs.put_told.Goals as goal

pub returns : goal.returns
unfolding told_parts
returns c =
    then _ _ _ _ c.put_field-mast.ensures
    (then _ _ _ _ c.put_field-list.ensures
    (then _ _ _ _ c.put_field-rela.ensures (one _ _ _ c.put_text.ensures)))
