-- `glance::behind` meets its contract. Assumes nothing.
use native.Mathlib.Omega.{arith}
use Rattle.glance.specs.Steps.{Ends}
use Rattle.glance.proofs.Lines.{ended_is}
use Rattle.glance.proofs.behind.Goals as goal

pub returns-in_default : goal.returns-in_default
unfolding Ends
returns-in_default c = ended_is _ _ c.if-text-end.false _ c.ending.ensures _ c.in_ok-over.was (omega arith)
