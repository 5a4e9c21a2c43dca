-- `forms::narrative::has_period` meets its contract. Assumes nothing.
use mathlib.Core.Path.{◌∙◌}
use Rattle.text.specs.Bytes.{bytes}
use Rattle.forms.specs.Narrative.{has_period}
use Rattle.forms.proofs.narrative.has_period.Goals as goal

pub returns : goal.returns
unfolding has_period bytes
returns c = c.begins_with.ensures ∙ rw c.from.ensures
