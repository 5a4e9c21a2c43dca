-- `layout::look_many` meets its contract. Assumes nothing.
use mathlib.Core.Bool.{and-false}
use Rattle.layout.proofs.look_many.Goals as goal
use Rattle.layout.proofs.look_many.Goals.{else-may-via-then-may+else-is_line, else-may-via-else-may}

pub returns-then-is_line : goal.returns-then-is_line
returns-then-is_line c = rw (c.if-may.true, ← c.is_line.ensures, c.if-is_line.true) c.fit.ensures

pub returns-else-may : goal.returns-else-may
returns-else-may c =
    elim c.else-may.branch [
      | else-may-via-then-may+else-is_line w ↦ rw (w.if-may.true, ← w.is_line.ensures, w.if-is_line.false) c.skip.ensures
      | else-may-via-else-may w ↦ rw (w.if-may.false, and-false) c.skip.ensures
    ]
