-- `packed::codes::side_byte` meets its contract: each case has its byte. Assumes nothing.
use Rattle.packed.specs.Packed.{side_byte}
use Rattle.packed.proofs.codes.side_byte.Goals as goal

pub returns-in-Buyi : goal.returns-in-Buyi
unfolding side_byte
returns-in-Buyi c = rw c.in-Buyi.is

pub returns-in-Sell : goal.returns-in-Sell
unfolding side_byte
returns-in-Sell c = rw c.in-Sell.is
