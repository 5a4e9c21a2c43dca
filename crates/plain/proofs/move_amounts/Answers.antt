-- `plain::move_amounts` meets its contract. Assumes nothing.
use Rattle.plain.proofs.Moves.{next, done}
use Rattle.plain.proofs.move_amounts.Goals as goal

pub loop-slot-init : goal.loop-slot-init
loop-slot-init g c = λ starts ends rest. rest

pub loop-slot-preserved : goal.loop-slot-preserved
loop-slot-preserved g c = next _ _ _ _ c.loop-slot.invariant c.loop-slot-test.true c.from.ensures c.move_in.ensures

pub returns : goal.returns
returns g c = rw (← c.amounts-slot-items.ensures) (done _ _ _ _ c.loop-slot.invariant c.loop-slot-test.false)
