-- `judge::form::general_form` meets its contract. Assumes nothing.
use mathlib.Core.Bool.{and-true}
use Rattle.format.specs.Writable.{hold}
use Rattle.values.specs.Writable.{tests}
use Rattle.judge.proofs.Tests.{widths}
use Rattle.judge.proofs.form.general_form.Goals as goal

pub returns : goal.returns
unfolding tests hold
returns c = rw (widths.seme _, widths.mast _, widths.prev _, widths.list _, ← c.in_form-seme.ensures, ← c.prep_form-prep.ensures, ← c.in_form-mast.ensures, ← c.in_form-prev.ensures, ← c.in_form-list.ensures, and-true c.in_form-list.result)
