-- `listing::kind_text` meets its contract. Assumes nothing.
use mathlib.Core.Path.{ap, ◌∙◌}
use Rattle.text.specs.Texts.{contents}
use Rattle.listing.proofs.Laws.{kind-is}
use Rattle.listing.proofs.kind_text.Goals as goal

pub returns : goal.returns
returns c = ap contents c.of.ensures ∙ kind-is _ _ c.kind_word.ensures
