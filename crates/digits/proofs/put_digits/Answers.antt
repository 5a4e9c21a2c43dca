use mathlib.Core.Path.{◌≡◌, ◌∙◌}
use native.Mathlib.Omega.{arith}
use Rattle.digits.specs.Numerals.{digits}
use Rattle.digits.proofs.Spelling.{put-none, put-more, put-done}
use Rattle.digits.proofs.put_digits.Goals as goal

pub returns-then-buf-at : goal.returns-then-buf-at
returns-then-buf-at c = put-none c.args.buf.now c.args.at c.args.width _ (omega arith)

pub returns-then-buf-at-2 : goal.returns-then-buf-at-2
returns-then-buf-at-2 c =
    let a = c.args in
    put-none a.buf.now a.at a.width _ (omega arith)

pub loop-left-preserved : goal.loop-left-preserved
loop-left-preserved c = put-more c.loop-left.buf _ c.loop-left.left c.loop-left.rest c.loop-left-test.true (omega arith) ∙ c.loop-left.invariant

pub returns : goal.returns
unfolding digits
returns c =
    let a = c.args in
    let z : c.loop-left.left ≡ 0 = omega arith in
    put-done a.buf.now a.at a.width a.number c.loop-left.buf (omega arith) (rw z at c.loop-left.invariant)
