-- `layout::key` meets its contract. Assumes nothing.
use Prim.Native.Nat.{◌*◌}
use Rattle.layout.proofs.Rows.{key-at}
use Rattle.layout.proofs.key.Goals as goal

pub returns : goal.returns
returns c =
    let a = c.args in
    rw c.remainder-len.ensures (key-at a.table.now (a.row * 16))
