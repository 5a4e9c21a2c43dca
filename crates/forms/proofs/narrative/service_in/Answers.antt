-- `forms::narrative::service_in` meets its contract. Assumes nothing.
use mathlib.Core.Path.{sym}
use lib.Seq.{length-take-le}
use Rattle.forms.proofs.Parts.{short-word, whole_word}
use Rattle.forms.proofs.narrative.service_in.Goals as goal

pub returns-then-word-lt4 : goal.returns-then-word-lt4
returns-then-word-lt4 c = short-word _ _ c.from-word.ensures c.if-word-lt4.true

pub slice_bounds-result-end : goal.slice_bounds-result-end
slice_bounds-result-end c = sym (length-take-le 4 c.from-word.result.now c.if-word-lt4.false)

pub returns : goal.returns
returns c = whole_word _ _ c.from-word.ensures
