-- A row that was put ends within its buffer. Assumes nothing.
use Prim.Native.Nat.{ℕ, ◌≤◌}
use mathlib.Core.Path.{◌≡◌, ap, ◌∙◌}
use mathlib.Core.List.{List}
use native.Mathlib.Omega.{arith}
use lib.ListN.{length}
use Rattle.text.specs.Copy.{placed, after}
use Rattle.text.proofs.Laws.{after-within, length-placed}

pub ends-within : (buf s : List ℕ) {r : ℕ} {now : List ℕ} → r ≡ after buf 0 s → now ≡ placed buf 0 s → (r ≤ length now) × (length now ≡ length buf)
ends-within buf s e f =
    let l = ap length f ∙ length-placed buf 0 s in
    let w = after-within buf 0 s (omega arith) in
    (omega arith, l)
