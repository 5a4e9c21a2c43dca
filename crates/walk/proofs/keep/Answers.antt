-- `walk::keep` meets its contract: a fixed text is short, so that the place behind it is one. Assumes nothing.
use Prim.Native.Nat.{◌≤◌}
use lib.ListN.{length}
use native.Mathlib.Omega.{arith}
use borrow.Author.Tests.{eq-eqb, ne_eqb}
use Rattle.forms.proofs.Laws.{fixed-short}
use Rattle.walk.proofs.keep.Goals as goal

pub returns-then-slot-eq0 : goal.returns-then-slot-eq0
returns-then-slot-eq0 c = (rw (eq-eqb _ _ c.if-slot-eq0.true), rw (eq-eqb _ _ c.if-slot-eq0.true))

pub overflow_add-value : goal.overflow_add-value
overflow_add-value c =
    let short : length c.fixed_text.result.now ≤ 16 = rw c.fixed_text.ensures (fixed-short _ _) in
    omega (arith, short, c.requires)

pub returns : goal.returns
returns c =
    let some = c.if-slot-eq0.false in
    (rw (ne_eqb _ _ some, ← c.fixed_text.ensures) c.keep.ensures, rw (ne_eqb _ _ some) c.keep-2.ensures)
