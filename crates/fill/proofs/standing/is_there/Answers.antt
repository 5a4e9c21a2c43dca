-- `fill::standing::is_there` meets its contract. Assumes nothing.
use lib.ListN.{length}
use Rattle.fill.specs.Filling.{fixed_in}
use Rattle.fill.proofs.Rows.{value_there, front-there}
use Rattle.fill.proofs.standing.is_there.Goals as goal

pub returns-then-value-ne0 : goal.returns-then-value-ne0
returns-then-value-ne0 c =
    let a = c.args in
    let v = c.value_of-value.result.now in
    rw (← c.value_of-value.ensures) (value_there (fixed_in a.slots.now a.optional.now a.slot (length v)) v c.if-value-ne0.true)

pub returns : goal.returns
returns c = rw (← c.value_of-value.ensures, ← c.front.ensures) (front-there c.front.result.now c.value_of-value.result.now c.if-value-ne0.false)
