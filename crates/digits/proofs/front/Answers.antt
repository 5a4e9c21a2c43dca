use Rattle.digits.proofs.Laws.{digit-high}
use Rattle.text.specs.Classes.{in_class}
use mathlib.Core.Path.{◌≡◌, sym, ◌∙◌}
use lib.ListN.{length}
use native.Mathlib.Omega.{arith}
use borrow.Author.Tests.{not-true, not-false}
use Rattle.digits.proofs.Spelling.{ahead-all, ran-is, too_long, small-enough, stop, again, done}
use Rattle.digits.proofs.front.Goals as goal

pub returns-then-part-gt18 : goal.returns-then-part-gt18
returns-then-part-gt18 c = ran-is _ _ _ (too_long _ c.if-part-gt18.true)

pub loop-len-init : goal.loop-len-init
loop-len-init c = ahead-all _

pub returns-then-not-in_class : goal.returns-then-not-in_class
returns-then-not-in_class c = ran-is _ _ _ (stop _ _ _ c.loop-len.invariant (omega arith) c.loop-len-test.true (sym c.in_class.ensures ∙ not-true _ c.if-not-in_class.true-raw))

pub overflow_mul-number : goal.overflow_mul-number
overflow_mul-number c = omega (arith, small-enough _ _ _ c.loop-len.invariant c.if-part-gt18.false)

pub value-requires : goal.value-requires
unfolding in_class
value-requires c = sym c.in_class.ensures ∙ not-false _ c.if-not-in_class.false-raw

pub overflow_add-number : goal.overflow_add-number
overflow_add-number c =
    let e = sym c.in_class.ensures ∙ not-false _ c.if-not-in_class.false-raw in
    omega (arith, small-enough _ _ _ c.loop-len.invariant c.if-part-gt18.false, digit-high _ e)

pub loop-len-preserved : goal.loop-len-preserved
loop-len-preserved c =
    let e = sym c.in_class.ensures ∙ not-false _ c.if-not-in_class.false-raw in
    rw c.value.ensures (again _ _ _ c.loop-len.invariant c.if-part-gt18.false c.loop-len-test.true e)

pub returns : goal.returns
returns c =
    let e : c.loop-len.len ≡ length c.args.part.now = omega arith in
    rw e at (ran-is _ _ _ (done _ _ _ c.loop-len.invariant (omega arith) c.loop-len-test.false))
