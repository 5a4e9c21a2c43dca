-- `trade::narrative::service_of` meets its contract. Assumes nothing.
use Rattle.trade.proofs.CodeWords.{service-is, service-else}
use Rattle.trade.proofs.narrative.service_of.Goals as goal

pub returns-in-1 : goal.returns-in-1
returns-in-1 c = service-is _ _ c.service_at.ensures 1 c.in-1.is

pub returns-in-2 : goal.returns-in-2
returns-in-2 c = service-is _ _ c.service_at.ensures 2 c.in-2.is

pub returns-in_default : goal.returns-in_default
returns-in_default c = let r = c.in_default.in_default-own.rest in service-else _ _ c.service_at.ensures r.0.1 r.1
