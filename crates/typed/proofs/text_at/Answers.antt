-- `typed::text_at` meets its contract. Assumes nothing.
use mathlib.Core.Path.{ap, ◌∙◌}
use Rattle.text.specs.Texts.{text_of}
use Rattle.typed.proofs.text_at.Goals as goal

pub returns : goal.returns
returns c = c.of.ensures ∙ ap text_of c.stretch.ensures
