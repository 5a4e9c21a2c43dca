use Rattle.placing.proofs.Keeping.{begin, more, done, out}
use Rattle.placing.proofs.keep.Goals as goal

pub loop-end-init : goal.loop-end-init
loop-end-init c = begin _ _ _

pub shape_of-places-then-places-place : goal.shape_of-places-then-places-place
shape_of-places-then-places-place c = c.loop-end.invariant.long

pub returns-then-places-place : goal.returns-then-places-place
returns-then-places-place c = out c.loop-end.invariant c.if-places-place.true

pub loop-end-preserved : goal.loop-end-preserved
loop-end-preserved c = more c.loop-end.invariant c.loop-end-test.true

pub shape_of-places : goal.shape_of-places
shape_of-places c = c.loop-end.invariant.long

pub returns : goal.returns
returns c = done c.loop-end.invariant c.loop-end-test.false
