-- `answer_values::slots::put_links` meets its contract. Assumes nothing.
use mathlib.Core.Path.{refl}
use Rattle.fill.proofs.Places.{more}
use Rattle.answer_values.specs.Values.{values}
use Rattle.answer_values.proofs.slots.put_links.Goals as goal

pub returns : goal.returns
unfolding values
returns c =
    more _ _ _ 5 8 _ _ 60 80 refl c.put_three-list.ensures
    (more _ _ _ 8 10 _ _ 40 40 refl c.put_two-prog.ensures c.put_two.ensures)
