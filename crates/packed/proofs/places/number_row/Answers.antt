use borrow.Author.Rules.{rules}
use Prim.Native.Nat.{ℕ}
use mathlib.Core.Path.{◌≡◌, refl, ◌∙◌}
use lib.ListN.{length, replicate}
use Rattle.packed.specs.Packed.{number_bytes}
use Rattle.packed.proofs.Bytes.{low-first, laid_none, laid_more, laid_done}
use Rattle.packed.proofs.places.number_row.Goals as goal

pub loop-i-init : goal.loop-i-init
loop-i-init c = laid_none (number_bytes 8) 8 7 c.args.numbers (replicate {A = ℕ} 56 0) refl

pub loop-i-preserved : goal.loop-i-preserved
loop-i-preserved c =
    let many : length c.args.numbers ≡ 7 =
    search rules
    in
    let m : length c.to_le_bytes.result ≡ 8 = search rules in
    laid_more (number_bytes 8) 8 7 c.args.numbers c.loop-i.row c.loop-i.i _ _ _ c.loop-i.invariant c.loop-i-test.true many (c.to_le_bytes.ensures ∙ low-first _) m c.put.ensures.1

pub returns : goal.returns
returns c =
    let many : length c.args.numbers ≡ 7 =
    search rules
    in
    laid_done (number_bytes 8) 8 7 c.args.numbers c.loop-i.row c.loop-i.i c.loop-i.invariant c.loop-i-test.false many
