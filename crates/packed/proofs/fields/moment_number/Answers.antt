-- `packed::fields::moment_number` meets its contract. Assumes nothing.
use native.Mathlib.Omega.{arith}
use Rattle.packed.proofs.Bytes.{moment-in, moment-out}
use Rattle.packed.proofs.fields.moment_number.Goals as goal

pub returns-then-moment-gt18446744073709 : goal.returns-then-moment-gt18446744073709
returns-then-moment-gt18446744073709 c = moment-out _ _ c.at_most-time.ensures (omega arith)

pub returns-then-date-time : goal.returns-then-date-time
returns-then-date-time c = moment-out _ _ c.at_most-time.ensures (omega arith)

pub returns : goal.returns
returns c = moment-in _ _ c.at_most-time.ensures (omega arith)
