-- `calendar::pair` meets its contract. Assumes nothing.
use native.Mathlib.Omega.{arith}
use Rattle.calendar.proofs.Parts.{low, high, pair_is}
use Rattle.calendar.proofs.pair.Goals as goal

pub overflow_mul-result : goal.overflow_mul-result
overflow_mul-result c = omega (arith, (high _ _ c.requires.0 c.requires.1).0, c.from.ensures)

pub overflow_add-result : goal.overflow_add-result
overflow_add-result c =
    let h = high _ _ c.requires.0 c.requires.1 in
    omega (arith, c.from.ensures, c.from-2.ensures)

pub overflow_sub-result : goal.overflow_sub-result
overflow_sub-result c =
    let l = low _ _ c.requires.0 c.requires.1 in
    omega (arith, c.from.ensures, c.from-2.ensures)

pub returns : goal.returns
returns c = rw (c.from.ensures, c.from-2.ensures) (pair_is _ _ c.requires.0 c.requires.1)
