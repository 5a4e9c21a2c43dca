-- `pool_values::narrative::put_cdr` meets its contract. Assumes nothing.
use Rattle.text.specs.Bytes.{bytes}
use Rattle.pool_values.specs.Values.{cdr_text}
use Rattle.pool_values.proofs.narrative.put_cdr.Goals as goal

pub returns-then-cdr : goal.returns-then-cdr
unfolding cdr_text bytes
returns-then-cdr c = rw c.if-cdr.true c.put.ensures

pub returns : goal.returns
unfolding cdr_text bytes
returns c = rw c.if-cdr.false c.put-2.ensures
