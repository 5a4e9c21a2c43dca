-- `answer_judge::form::header_form` meets its contract. Assumes nothing.
use mathlib.Core.Bool.{and-true}
use Rattle.format.specs.Writable.{hold}
use Rattle.answer_judge.proofs.Tests.{widths}
use Rattle.answer_judge.proofs.form.header_form.Goals as goal

pub returns : goal.returns
unfolding hold
returns c = rw (widths.password _, widths.receiver _, ← c.in_form-password.ensures, ← c.in_form-receiver.ensures, and-true c.in_form-receiver.result)
