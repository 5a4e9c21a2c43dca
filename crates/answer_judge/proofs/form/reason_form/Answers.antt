-- `answer_judge::form::reason_form` meets its contract. Assumes nothing.
use Rattle.answer_values.specs.Writable.{stands}
use Rattle.answer_judge.specs.Parts.{reason_form}
use Rattle.answer_judge.proofs.form.reason_form.Goals as goal

pub returns : goal.returns
unfolding reason_form stands
returns c = rw (c.in_form-absent.ensures, c.in_form-four.ensures, c.in_form-text.ensures)
