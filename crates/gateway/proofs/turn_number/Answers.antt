-- `gateway::turn_number` meets its contract. Assumes nothing.
use Rattle.gateway.specs.Numbers.{turn_number}
use Rattle.gateway.proofs.turn_number.Goals as goal

pub returns-in-Message : goal.returns-in-Message
unfolding turn_number
returns-in-Message c = rw c.in-Message.is

pub returns-in-Done : goal.returns-in-Done
unfolding turn_number
returns-in-Done c = rw c.in-Done.is

pub returns-in-Past : goal.returns-in-Past
unfolding turn_number
returns-in-Past c = rw c.in-Past.is
