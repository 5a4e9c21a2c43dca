-- `packed::codes::codes_of` meets its contract. Assumes nothing.
use Rattle.packed.specs.Packed.{codes}
use Rattle.packed.proofs.codes.codes_of.Goals as goal

pub returns : goal.returns
unfolding codes
returns c = rw (c.kind_byte.ensures, c.side_byte.ensures, c.service_byte.ensures, c.period_byte.ensures)
