-- `pool_judge::form::details_form` meets its contract. Assumes nothing.
use mathlib.Core.Bool.{and-true}
use Rattle.format.specs.Writable.{hold}
use Rattle.pool_values.specs.Writable.{tests}
use Rattle.pool_judge.proofs.form.details_form.Goals as goal

pub returns : goal.returns
unfolding tests hold
returns c = rw (← c.in_form-trad.ensures, ← c.in_form-sett.ensures, ← c.in_form-price.ensures, ← c.payment_form-money.ensures, and-true c.payment_form-money.result)
