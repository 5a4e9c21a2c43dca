-- `packed::codes::service_byte` meets its contract: each case has its byte. Assumes nothing.
use Rattle.packed.specs.Packed.{service_byte}
use Rattle.packed.proofs.codes.service_byte.Goals as goal

pub returns-in-Sbod : goal.returns-in-Sbod
unfolding service_byte
returns-in-Sbod c = rw c.in-Sbod.is

pub returns-in-Tftd : goal.returns-in-Tftd
unfolding service_byte
returns-in-Tftd c = rw c.in-Tftd.is

pub returns-in-Stip : goal.returns-in-Stip
unfolding service_byte
returns-in-Stip c = rw c.in-Stip.is
