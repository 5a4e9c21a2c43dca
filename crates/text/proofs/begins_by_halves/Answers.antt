-- `text::begins_by_halves` meets its contract. Assumes nothing.
use Prim.Native.Nat.{◌-◌}
use lib.ListN.{length}
use native.Mathlib.Omega.{arith}
use mathlib.Core.Path.{refl}
use borrow.Author.Tests.{ne_eqb}
use Rattle.text.proofs.Words.{words-stop, words_more, words_last}
use Rattle.text.proofs.begins_by_halves.Goals as goal

pub returns-else-half : goal.returns-else-half
returns-else-half c =
    rw (ne_eqb _ _ c.if-half.false)
    (words-stop
    c.args.key.now
    c.args.part.now
    c.requires.0
    c.type_inv.key
    c.type_inv.part
    0
    4
    c.requires.1
    c.half.ensures.0
    c.half-2.ensures.0
    c.if-half.false)

pub returns-then-half : goal.returns-then-half
returns-then-half c =
    let key = c.args.key.now in
    let part = c.args.part.now in
    let bytes = c.type_inv.part in
    let keys = c.type_inv.key in
    let first = words_more key part c.requires.0 keys bytes 0 4 c.requires.1 c.half.ensures.0 c.half-2.ensures.0 refl c.if-half.true in
    words_last key part c.requires.0 keys bytes (length key - 4) 4 (omega arith) c.half-then-half.ensures.0 c.half-then-half-2.ensures.0 4 (omega arith) (omega arith) (omega arith) first
