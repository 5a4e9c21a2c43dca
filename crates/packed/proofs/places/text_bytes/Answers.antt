-- `packed::places::text_bytes` meets its contract. Assumes nothing.
use native.Mathlib.Omega.{arith}
use Prim.Native.Nat.{◌≤◌}
use mathlib.Core.Path.{◌≡◌, ◌∙◌}
use lib.ListN.{length}
use Rattle.packed.specs.Packed.{text_bytes}
use Rattle.packed.proofs.Laws.{at-most-le}
use Rattle.packed.proofs.Bytes.{text-place}
use borrow.Author.Rules.{rules}
use Rattle.packed.proofs.places.text_bytes.Goals as goal

pub overflow_cast-place : goal.overflow_cast-place
overflow_cast-place c = let l : c.at_most.result ≤ 255 = rw c.at_most.ensures (at-most-le 255 _) in omega arith

pub returns : goal.returns
unfolding text_bytes
returns c =
    let a = c.args in
    let n : length a.text.bytes ≡ 20 = search rules in
    let e = c.at_most.ensures in
    text-place _ _ _ n c.put.ensures.1 ∙ rw e
