-- `lines::check` meets its contract: the size, and then the lines.
-- Assumes nothing.
use mathlib.Core.Path.{◌∙◌}
use native.Mathlib.Omega.{arith}
use Rattle.lines.specs.Verdicts.{refused}
use Rattle.lines.proofs.Scans.{size_none, size-long, size-good}
use Rattle.lines.proofs.check.Goals as goal

pub returns-then-message-eq0 : goal.returns-then-message-eq0
unfolding refused
returns-then-message-eq0 c = size_none _ c.if-message-eq0.true

pub returns-then-message-gt4096 : goal.returns-then-message-gt4096
unfolding refused
returns-then-message-gt4096 c = size-long _ c.if-message-gt4096.true

pub check_lines-requires : goal.check_lines-requires
check_lines-requires c = omega (arith, c.if-message-eq0.false)

pub returns : goal.returns
returns c = c.check_lines.ensures ∙ size-good _ c.if-message-eq0.false c.if-message-gt4096.false
