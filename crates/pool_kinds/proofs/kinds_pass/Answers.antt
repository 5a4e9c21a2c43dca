-- `pool_kinds::kinds_pass` meets its contract. Assumes nothing.
use mathlib.Core.Path.{refl, sym, ap, ◌∙◌}
use mathlib.Core.Bool.{not}
use Rattle.lines.proofs.Rules.{stops, goes_on}
use Rattle.pool_kinds.specs.Kinds.{kinds_pass}
use Rattle.pool_kinds.proofs.kinds_pass.Goals as goal

pub returns-then-not-goes_with : goal.returns-then-not-goes_with
unfolding kinds_pass
returns-then-not-goes_with c = c.refused.ensures ∙ stops _ 13 _ (ap not (sym c.goes_with.ensures) ∙ c.if-not-goes_with.true-raw) refl

pub returns : goal.returns
unfolding kinds_pass
returns c = c.record_pass.ensures ∙ goes_on _ 13 _ (ap not (sym c.goes_with.ensures) ∙ c.if-not-goes_with.false-raw)
