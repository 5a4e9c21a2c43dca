-- `judge::form::security_form` meets its contract. Assumes nothing.
use mathlib.Core.Bool.{◌&&◌, and-true}
use Rattle.format.specs.Writable.{hold}
use Rattle.values.specs.Writable.{tests}
use Rattle.judge.proofs.Tests.{widths}
use Rattle.judge.proofs.form.security_form.Goals as goal

pub returns : goal.returns
unfolding tests hold
returns c = rw (widths.cusip _, widths.pool _, ← c.in_form-par.ensures, ← c.in_form-cusip.ensures, ← c.in_form-pool.ensures, ← c.period_form-period.ensures, ← c.in_form-reason.ensures, and-true (c.period_form-period.result && c.in_form-reason.result))
