-- `field::front_of` meets its contract: no fixed text is long. Assumes nothing.
use native.Mathlib.Omega.{arith}
use Rattle.forms.proofs.Laws.{fixed-short}
use Rattle.format.specs.Field as AnyType
use Rattle.field.proofs.front_of.Goals as goal

pub overflow_add-result : goal.overflow_add-result
overflow_add-result g c = let short = rw (← c.fixed_text.ensures) at (fixed-short c.slots.result.now c.args.slot) in omega (arith, short, c.beyond.ensures.1)

pub returns : goal.returns
unfolding AnyType.front_of
returns g c = rw (c.fixed_text.ensures, c.slots.ensures, c.beyond.ensures.0)
