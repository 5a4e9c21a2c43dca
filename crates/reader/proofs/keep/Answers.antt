-- `reader::keep` meets its contract: a fixed text is short, so that the place behind it is one. Assumes nothing.
use Prim.Native.Nat.{◌≤◌}
use lib.ListN.{length}
use native.Mathlib.Omega.{arith}
use Rattle.forms.proofs.Laws.{fixed-short}
use Rattle.reader.proofs.keep.Goals as goal

pub overflow_add-at : goal.overflow_add-at
overflow_add-at c =
    let short : length c.fixed_text-fixed.result.now ≤ 16 = rw c.fixed_text-fixed.ensures (fixed-short _ _) in
    omega (arith, short, c.requires)

pub returns : goal.returns
returns c = (rw (← c.fixed_text-fixed.ensures) c.keep.ensures, c.keep-2.ensures)
