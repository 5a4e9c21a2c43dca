-- `pool_judge::form::general_form` meets its contract. Assumes nothing.
use mathlib.Core.Bool.{and-true}
use Rattle.format.specs.Writable.{hold}
use Rattle.pool_values.specs.Writable.{tests}
use Rattle.pool_judge.proofs.Tests.{widths}
use Rattle.pool_judge.proofs.form.general_form.Goals as goal

pub returns : goal.returns
unfolding tests hold
returns c = rw (widths.seme _, widths.mast _, widths.prev _, widths.list _, ← c.in_form-seme.ensures, ← c.in_form-mast.ensures, ← c.in_form-prev.ensures, ← c.in_form-list.ensures, and-true c.in_form-list.result)
