-- `judge::form::in_form` meets its contract: the stretches are all of the list. Assumes nothing.
use Rattle.values.specs.Writable.{tests}
use Rattle.judge.proofs.Tests.{formed}
use Rattle.judge.proofs.form.in_form.Goals as goal

pub returns : goal.returns
unfolding tests
returns c = formed c.args.trade c.general_form-general.ensures c.details_form-details.ensures c.party_form-buyer.ensures c.party_form-seller.ensures c.security_form-security.ensures c.header_form-header.ensures
