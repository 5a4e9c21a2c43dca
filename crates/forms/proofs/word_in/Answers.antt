use mathlib.Core.Path.{◌≡◌, sym, ◌∙◌}
use native.Mathlib.Omega.{arith}
use Rattle.forms.proofs.Parts.{word-here, word-further, word_none, line-from, word-lines}
use Rattle.forms.proofs.word_in.Goals as goal

pub returns-then-equals : goal.returns-then-equals
returns-then-equals c =
    rw (← c.from-lines.ensures, ← c.from-from.ensures)
    (word-here _ _ _ c.loop-k.invariant _ (line-from _ _ _ _ c.loop-k-test.true _ c.fixed_text.ensures) (sym c.equals.ensures ∙ c.if-equals.true))

pub loop-k-preserved : goal.loop-k-preserved
loop-k-preserved c = word-further _ _ _ c.loop-k.invariant _ (line-from _ _ _ _ c.loop-k-test.true _ c.fixed_text.ensures) (sym c.equals.ensures ∙ c.if-equals.false)

pub returns : goal.returns
returns c =
    let all : c.loop-k.k ≡ c.from-lines.result = omega arith in
    rw (← c.from-lines.ensures, ← c.from-from.ensures) (rw all at (word_none _ _ _ c.loop-k.invariant (rw word-lines c.loop-k-test.false)))
