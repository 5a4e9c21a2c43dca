use mathlib.Core.Path.{refl, ap, ◌∙◌}
use native.Mathlib.Numerals.{add-one}
use Rattle.lines.specs.Lines.{start_behind}
use Rattle.lines.specs.declared.Line.{Line}
use Rattle.lines.proofs.behind.Goals as goal

pub loop-init : goal.loop-init
unfolding start_behind
loop-init c = refl

pub loop-preserved : goal.loop-preserved
unfolding start_behind
loop-preserved c = ap (λ (l : Line). l.next) c.line_at-at.ensures ∙ rw (c.loop.invariant, add-one)
