-- `measure::fixed_width` meets its contract. Assumes nothing.
use Prim.Native.Nat.{◌+◌, ◌-◌}
use mathlib.Core.Path.{◌≡◌, sym, ◌∙◌}
use native.Mathlib.Omega.{arith}
use Rattle.measure.specs.Measure.{FixedMeasured}
use Rattle.measure.proofs.fixed_width.Goals as goal

pub returns-then-begins_with : goal.returns-then-begins_with
unfolding FixedMeasured
returns-then-begins_with c =
    let n = c.from-len.result in
    let w : 4 + n - 4 ≡ n = omega arith in
    (c.from-len.ensures, c.if-len-gt16.false, rw w at (sym c.begins_with.ensures ∙ c.if-begins_with.true))
