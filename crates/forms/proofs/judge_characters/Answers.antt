-- `forms::judge_characters` meets its contract. Assumes nothing.
use mathlib.Core.Path.{ap, ◌∙◌}
use Rattle.forms.specs.Forms.{unless}
use Rattle.forms.proofs.Parts.{characters-number}
use Rattle.forms.proofs.judge_characters.Goals as goal

pub returns : goal.returns
returns c = c.unless.ensures ∙ ap unless c.is_all.ensures ∙ characters-number _ _ _ _ _ _ c.from.ensures c.from-2.ensures
