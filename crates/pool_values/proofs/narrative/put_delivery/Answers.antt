-- `pool_values::narrative::put_delivery` meets its contract. Assumes nothing.
use native.Mathlib.Omega.{arith}
use Rattle.text.specs.Bytes.{bytes}
use Rattle.fill.proofs.Runs.{two}
use Rattle.typed.proofs.Widths.{date-most}
use Rattle.pool_values.specs.Values.{delivery_text}
use Rattle.pool_values.proofs.narrative.put_delivery.Goals as goal

pub returns-in-None : goal.returns-in-None
unfolding delivery_text
returns-in-None c = rw c.in-None.is c.put.ensures

pub returns-in-Some : goal.returns-in-Some
unfolding delivery_text bytes
returns-in-Some c =
    let short = date-most c.in-Some.date in
    let room = c.requires in
    rw c.in-Some.is (two _ _ (bytes "/DDTE") _ c.put-next.ensures c.put-in-Some.ensures (omega arith))
