-- `reader::first_fault` meets its contract. Assumes nothing.
use borrow.Author.Tests.{eq-eqb, ne_eqb}
use Rattle.lines.specs.Verdicts.{refused, pass, then}
use Rattle.reader.proofs.first_fault.Goals as goal

pub returns-then-fault-ne0 : goal.returns-then-fault-ne0
unfolding then
returns-then-fault-ne0 c = rw (ne_eqb _ _ c.if-fault-ne0.true)

pub returns-then-judge-eq0 : goal.returns-then-judge-eq0
unfolding then pass refused
returns-then-judge-eq0 c = rw (eq-eqb _ _ c.if-fault-ne0.false, ← c.judge.ensures, eq-eqb _ _ c.if-judge-eq0.true)

pub returns : goal.returns
unfolding then pass refused
returns c = rw (eq-eqb _ _ c.if-fault-ne0.false, ← c.judge.ensures, ne_eqb _ _ c.if-judge-eq0.false)
