-- `measure::word_width` meets its contract. Assumes nothing.
use mathlib.Core.Path.{sym, ◌∙◌}
use Rattle.measure.proofs.Laws.{word-told}
use Rattle.measure.proofs.word_width.Goals as goal

pub returns-then-begins_with : goal.returns-then-begins_with
returns-then-begins_with c =
    rw (← c.from.ensures, ← c.from-k-end.ensures)
    (word-told _ _ _ _ _ _ c.loop-k-test.true c.fixed_text-word.ensures (sym c.begins_with.ensures ∙ c.if-begins_with.true))
