-- `answer_judge::form::in_form` meets its contract: the stretches are all of the list. Assumes nothing.
use Rattle.answer_values.specs.Writable.{tests}
use Rattle.answer_judge.proofs.Tests.{formed}
use Rattle.answer_judge.proofs.form.in_form.Goals as goal

pub returns : goal.returns
unfolding tests
returns c = formed c.args.answer c.general_form-general.ensures c.links_form-links.ensures c.in_form-status.ensures c.reasons_form-reasons.ensures c.header_form-header.ensures
