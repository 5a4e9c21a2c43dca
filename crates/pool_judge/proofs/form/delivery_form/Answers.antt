-- `pool_judge::form::delivery_form` meets its contract. Assumes nothing.
use Rattle.pool_values.specs.Writable.{delivery_form}
use Rattle.pool_judge.proofs.form.delivery_form.Goals as goal

pub returns-in-None : goal.returns-in-None
unfolding delivery_form
returns-in-None c = rw c.in-None.is

pub returns-in-Some : goal.returns-in-Some
unfolding delivery_form
returns-in-Some c = rw c.in-Some.is c.in_form.ensures
