-- `values::narrative::put_period` meets its contract. Assumes nothing.
use Rattle.text.specs.Bytes.{bytes}
use Rattle.digits.specs.Numerals.{digits}
use Rattle.values.specs.Values.{period_text}
use Rattle.fill.proofs.Runs.{two}
use Rattle.values.proofs.narrative.put_period.Goals as goal

pub returns-in-None : goal.returns-in-None
unfolding period_text
returns-in-None c = rw c.in-None.is c.put.ensures

pub returns-in-Some : goal.returns-in-Some
unfolding period_text bytes digits
returns-in-Some c = rw c.in-Some.is (two _ _ (bytes "/GUPP") (digits 1 c.in-Some.days) c.put-next.ensures c.put_digits.ensures c.requires)
