-- `layout::row_text` meets its contract. Assumes nothing.
use mathlib.Core.Path.{sym, ◌∙◌}
use Rattle.layout.proofs.Laws.{text_at_lem, text-none}
use Rattle.layout.proofs.row_text.Goals as goal

pub returns-then-row-table : goal.returns-then-row-table
returns-then-row-table c = c.key.ensures ∙ sym (text_at_lem _ _ c.if-row-table.true)

pub returns-else-row-table : goal.returns-else-row-table
returns-else-row-table c = sym (text-none _ _ c.if-row-table.false)
