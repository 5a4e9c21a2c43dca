-- `judge::form::period_form` meets its contract. Assumes nothing.
use Rattle.values.specs.Writable.{period_form}
use Rattle.judge.proofs.form.period_form.Goals as goal

pub returns-in-None : goal.returns-in-None
unfolding period_form
returns-in-None c = rw c.in-None.is

pub returns-in-Some : goal.returns-in-Some
unfolding period_form
returns-in-Some c = rw c.in-Some.is
