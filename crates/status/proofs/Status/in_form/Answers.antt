-- `status::Status::in_form` meets its contract: the values are thirty. Assumes nothing.
use mathlib.Core.Path.{refl}
use Rattle.status.specs.Statuses.{statuses, status_form}
use Rattle.status.proofs.Status.in_form.Goals as goal

pub returns : goal.returns
unfolding status_form statuses
returns c = refl
