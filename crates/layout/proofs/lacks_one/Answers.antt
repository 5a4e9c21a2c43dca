use Prim.Native.Nat.{◌+◌, ◌*◌}
use mathlib.Core.Path.{ap}
use mathlib.Core.Bool.{not}
use native.Mathlib.Omega.{arith}
use Rattle.layout.proofs.Rows.{lacks-none, mark-unseen, mark-seen, lacks-end, lacks-more}
use Rattle.layout.proofs.lacks_one.Goals as goal
use Rattle.layout.proofs.lacks_one.Goals.{in-Mark+else-not-is_seen, in_default}

pub overflow_cast-table : goal.overflow_cast-table
overflow_cast-table c = omega (arith, c.type_inv.table (c.loop-i.i * 16 + 1))

pub returns-then-not-is_seen : goal.returns-then-not-is_seen
returns-then-not-is_seen c =
    let a = c.args in
    mark-unseen a.seen.now a.table.now a.row c.loop-i.i c.loop-i.invariant c.loop-i-test.true _ c.of.ensures c.in-Mark.is _ c.is_seen.ensures (ap not c.if-not-is_seen.true)

pub returns-in-End : goal.returns-in-End
returns-in-End c =
    let a = c.args in
    lacks-end a.seen.now a.table.now a.row c.loop-i.i c.loop-i.invariant c.loop-i-test.true _ c.of.ensures c.in-End.is

pub loop-i-preserved : goal.loop-i-preserved
loop-i-preserved c =
    let a = c.args in
    let h = c.loop-i-test.true in
    elim c.match-of.branch [
      | in-Mark+else-not-is_seen w ↦
          mark-seen a.seen.now a.table.now a.row c.loop-i.i c.loop-i.invariant h _ c.of.ensures w.in-Mark.is _ w.is_seen.ensures (ap not w.if-not-is_seen.false)
      | in_default w ↦
          lacks-more a.seen.now a.table.now a.row c.loop-i.i c.loop-i.invariant h _ c.of.ensures w.in_default.not-Mark w.in_default.not-End
    ]

pub returns : goal.returns
returns c =
    let a = c.args in
    lacks-none a.seen.now a.table.now a.row c.loop-i.i c.loop-i.invariant c.loop-i-test.false
