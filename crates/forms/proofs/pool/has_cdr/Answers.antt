-- `forms::pool::has_cdr` meets its contract. Assumes nothing.
use mathlib.Core.Path.{◌∙◌}
use Rattle.text.specs.Bytes.{bytes}
use Rattle.forms.specs.Pool.{has_cdr}
use Rattle.forms.proofs.pool.has_cdr.Goals as goal

pub returns : goal.returns
unfolding has_cdr bytes
returns c = c.begins_with.ensures ∙ rw c.from.ensures
