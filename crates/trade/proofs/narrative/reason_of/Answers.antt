-- `trade::narrative::reason_of` meets its contract. Assumes nothing.
use Rattle.trade.proofs.narrative.reason_of.Goals as goal

pub returns : goal.returns
returns c = rw (← c.behind_period.ensures, ← c.code_in.ensures) c.of.ensures
