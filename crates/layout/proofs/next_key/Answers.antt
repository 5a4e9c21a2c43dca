-- `layout::next_key` meets its contract. Assumes nothing.
use Rattle.layout.proofs.Rows.{no-next, next_field, next-other}
use Rattle.layout.proofs.next_key.Goals as goal

pub returns-then-rows-row : goal.returns-then-rows-row
returns-then-rows-row c = no-next _ _ c.if-rows-row.true

pub returns-in-Field : goal.returns-in-Field
returns-in-Field c = next_field _ _ c.if-rows-row.false _ c.of.ensures c.in-Field.is _ c.key.ensures

pub returns-in_default : goal.returns-in_default
returns-in_default c = next-other _ _ c.if-rows-row.false _ c.of.ensures c.in_default.not-Field c.in_default.not-MayField
