-- `judge::form::header_form` meets its contract. Assumes nothing.
use mathlib.Core.Bool.{and-true}
use Rattle.format.specs.Writable.{hold}
use Rattle.values.specs.Writable.{tests}
use Rattle.judge.proofs.Tests.{widths}
use Rattle.judge.proofs.form.header_form.Goals as goal

pub returns : goal.returns
unfolding tests hold
returns c = rw (widths.password _, widths.sender _, ← c.in_form-password.ensures, ← c.in_form-sender.ensures, and-true c.in_form-sender.result)
