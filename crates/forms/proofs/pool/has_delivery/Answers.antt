-- `forms::pool::has_delivery` meets its contract. Assumes nothing.
use mathlib.Core.Path.{◌∙◌}
use Rattle.text.specs.Bytes.{bytes}
use Rattle.forms.specs.Pool.{has_delivery}
use Rattle.forms.proofs.pool.has_delivery.Goals as goal

pub returns : goal.returns
unfolding has_delivery bytes
returns c = c.begins_with.ensures ∙ rw c.behind_cdr.ensures
