use Prim.Native.Nat.{◌/◌}
use mathlib.Core.Path.{◌≡◌, sym, ◌∙◌}
use lib.ListN.{length}
use native.Mathlib.Omega.{arith}
use Rattle.forms.proofs.Parts.{word-here, word-further, word_none, four-from, fours}
use Rattle.forms.proofs.word_at.Goals as goal

pub returns-then-equals : goal.returns-then-equals
returns-then-equals c = word-here _ _ _ c.loop-i.invariant _ (four-from _ _ c.loop-i-test.true) (sym c.equals.ensures ∙ c.if-equals.true)

pub loop-i-preserved : goal.loop-i-preserved
loop-i-preserved c = word-further _ _ _ c.loop-i.invariant _ (four-from _ _ c.loop-i-test.true) (sym c.equals.ensures ∙ c.if-equals.false)

pub returns : goal.returns
returns c =
    let all : c.loop-i.i ≡ length c.args.words.now / 4 = omega arith in
    rw all at (word_none _ _ _ c.loop-i.invariant (rw fours (omega arith)))
