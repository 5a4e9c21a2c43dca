-- `trade::narrative::period_of` meets its contract: a period of 0 days is a period. Assumes nothing.
use mathlib.Core.Path.{◌≡◌, sym, ◌∙◌}
use Prim.Native.Nat.{◌-◌}
use native.Mathlib.Omega.{arith}
use borrow.Author.Tests.{not-true, not-false}
use Rattle.trade.specs.Narrative.{period_of}
use Rattle.trade.proofs.narrative.period_of.Goals as goal

pub returns-then-not-has_period : goal.returns-then-not-has_period
unfolding period_of
returns-then-not-has_period c = rw (sym c.has_period.ensures ∙ not-true _ c.if-not-has_period.true-raw)

pub returns-then-digit-le48 : goal.returns-then-digit-le48
unfolding period_of
returns-then-digit-le48 c =
    let e : c.period_in-digit.result - 48 ≡ 0 = omega (arith, c.if-digit-le48.true) in
    rw (sym c.has_period.ensures ∙ not-false _ c.if-not-has_period.false-raw, ← c.period_in-digit.ensures, e)

pub returns : goal.returns
unfolding period_of
returns c = rw (sym c.has_period.ensures ∙ not-false _ c.if-not-has_period.false-raw, ← c.period_in-digit.ensures, c.from.ensures)
