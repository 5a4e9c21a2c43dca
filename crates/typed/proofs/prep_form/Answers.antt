-- `typed::prep_form` meets its contract. Assumes nothing.
use Rattle.typed.specs.Prep.{prep_form}
use Rattle.typed.proofs.prep_form.Goals as goal

pub returns : goal.returns
unfolding prep_form
returns c = rw (← c.in_form-moment.ensures)
