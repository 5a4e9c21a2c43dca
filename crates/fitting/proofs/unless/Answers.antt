-- `fitting::unless` meets its contract. Assumes nothing.
use Rattle.fitting.proofs.unless.Goals as goal

pub returns-else-stop : goal.returns-else-stop
returns-else-stop c = rw c.if-stop.false
