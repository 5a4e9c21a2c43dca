-- `packed::fields::numbers_of` meets its contract. Assumes nothing.
use Rattle.packed.specs.Packed.{numbers}
use Rattle.packed.proofs.fields.numbers_of.Goals as goal

pub returns : goal.returns
unfolding numbers
returns c = rw (c.moment_number.ensures, c.moment_number-2.ensures)
