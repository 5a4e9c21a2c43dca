-- `unpacked::codes::period_from` meets its contract. Assumes nothing.
use Rattle.unpacked.specs.Unpacked.{period_from}
use borrow.Author.Tests.{eq-eqb, ne_eqb}
use Rattle.unpacked.proofs.codes.period_from.Goals as goal

pub returns-then-byte-eq255 : goal.returns-then-byte-eq255
unfolding period_from
returns-then-byte-eq255 c = rw (eq-eqb _ _ c.if-byte-eq255.true)

pub returns-else-byte-eq255 : goal.returns-else-byte-eq255
unfolding period_from
returns-else-byte-eq255 c = rw (ne_eqb _ _ c.if-byte-eq255.false)
