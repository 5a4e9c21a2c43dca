-- `packed::codes::at_most` meets its contract. Assumes nothing.
use Rattle.packed.specs.Packed.{at_most}
use borrow.Author.Tests.{le-leb, lt-leb}
use Rattle.packed.proofs.codes.at_most.Goals as goal

pub returns-then-number-most : goal.returns-then-number-most
unfolding at_most
returns-then-number-most c = rw (le-leb _ _ c.if-number-most.true)

pub returns-else-number-most : goal.returns-else-number-most
unfolding at_most
returns-else-number-most c = rw (lt-leb _ _ c.if-number-most.false)
