-- `pool_judge::form::security_form` meets its contract. Assumes nothing.
use mathlib.Core.Bool.{◌&&◌, and-true}
use Rattle.format.specs.Writable.{hold}
use Rattle.pool_values.specs.Writable.{tests}
use Rattle.pool_judge.proofs.Tests.{widths}
use Rattle.pool_judge.proofs.form.security_form.Goals as goal

pub returns : goal.returns
unfolding tests hold
returns c = rw (widths.cusip _, widths.pool _, ← c.in_form-par.ensures, ← c.in_form-cusip.ensures, ← c.in_form-pool.ensures, ← c.delivery_form-delivery.ensures, ← c.in_form-reason.ensures, and-true (c.delivery_form-delivery.result && c.in_form-reason.result))
