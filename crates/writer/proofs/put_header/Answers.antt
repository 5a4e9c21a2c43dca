use Rattle.writer.proofs.Header.{begin, again, done}
use Rattle.writer.proofs.put_header.Goals as goal

pub loop-slot-init : goal.loop-slot-init
loop-slot-init c = begin _ _ _ _

pub loop-slot-preserved : goal.loop-slot-preserved
loop-slot-preserved c = again _ _ _ _ _ _ _ c.loop-slot.invariant c.loop-slot-test.true c.put_line-at.ensures

pub returns : goal.returns
returns c = done _ _ _ _ _ _ _ c.loop-slot.invariant c.loop-slot-test.false
