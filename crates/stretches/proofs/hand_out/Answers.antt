use Rattle.stretches.proofs.Handing.{begin, more, done}
use Rattle.stretches.proofs.hand_out.Goals as goal

pub loop-field-init : goal.loop-field-init
loop-field-init c = begin _ _ _ _ _ _

pub loop-field-preserved : goal.loop-field-preserved
loop-field-preserved c = more _ _ _ _ _ _ c.loop-field.invariant c.loop-field-test.true c.from-slot.ensures c.at-end.ensures c.at.ensures c.begin.ensures c.keep.ensures c.keep-in-loop-field.ensures

pub returns : goal.returns
returns c = done _ _ _ _ _ _ c.loop-field.invariant c.loop-field-test.false
