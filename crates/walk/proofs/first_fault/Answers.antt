-- `walk::first_fault` meets its contract. Assumes nothing.
use borrow.Author.Tests.{eq-eqb, ne_eqb}
use Rattle.lines.specs.Verdicts.{refused, pass, then}
use Rattle.walk.specs.Walk.{value_verdict}
use Rattle.walk.proofs.first_fault.Goals as goal

pub returns-then-slot-eq0 : goal.returns-then-slot-eq0
returns-then-slot-eq0 c = rw (eq-eqb _ _ c.if-slot-eq0.true)

pub returns-then-fault-ne0 : goal.returns-then-fault-ne0
unfolding then value_verdict pass refused
returns-then-fault-ne0 c = rw (ne_eqb _ _ c.if-slot-eq0.false, ne_eqb _ _ c.if-fault-ne0.true)

pub returns-then-number-eq0 : goal.returns-then-number-eq0
unfolding then value_verdict pass refused
returns-then-number-eq0 c = rw (ne_eqb _ _ c.if-slot-eq0.false, eq-eqb _ _ c.if-fault-ne0.false, ← c.judge-number.ensures, eq-eqb _ _ c.if-number-eq0.true)

pub returns : goal.returns
unfolding then value_verdict pass refused
returns c = rw (ne_eqb _ _ c.if-slot-eq0.false, eq-eqb _ _ c.if-fault-ne0.false, ← c.judge-number.ensures, ne_eqb _ _ c.if-number-eq0.false)
