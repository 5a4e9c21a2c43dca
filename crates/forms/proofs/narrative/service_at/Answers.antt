-- `forms::narrative::service_at` meets its contract: the words stand one behind the other in the code's bytes. Assumes nothing.
use mathlib.Core.Path.{◌∙◌}
use Rattle.text.specs.Bytes.{bytes, parts}
use Rattle.forms.specs.Slots.{words_of}
use Rattle.forms.proofs.narrative.service_at.Goals as goal

pub returns : goal.returns
unfolding bytes words_of parts
returns c = c.word_at.ensures ∙ rw c.service_in.ensures
