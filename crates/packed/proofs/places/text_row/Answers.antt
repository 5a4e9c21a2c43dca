use borrow.Author.Rules.{rules}
use Prim.Native.Nat.{ℕ}
use mathlib.Core.Path.{◌≡◌, refl}
use lib.ListN.{length, replicate}
use Rattle.packed.specs.Packed.{text_bytes}
use Rattle.packed.proofs.Bytes.{laid_none, laid_more, laid_done}
use Rattle.packed.proofs.places.text_row.Goals as goal

pub loop-i-init : goal.loop-i-init
loop-i-init c = laid_none text_bytes 21 15 c.args.texts (replicate {A = ℕ} 315 0) refl

pub loop-i-preserved : goal.loop-i-preserved
loop-i-preserved c =
    let many : length c.args.texts ≡ 15 =
    search rules
    in
    let m : length c.text_bytes.result ≡ 21 = search rules in
    laid_more text_bytes 21 15 c.args.texts c.loop-i.row c.loop-i.i _ _ _ c.loop-i.invariant c.loop-i-test.true many c.text_bytes.ensures m c.put.ensures.1

pub returns : goal.returns
returns c =
    let many : length c.args.texts ≡ 15 =
    search rules
    in
    laid_done text_bytes 21 15 c.args.texts c.loop-i.row c.loop-i.i c.loop-i.invariant c.loop-i-test.false many
