-- `reason::put` meets its contract: the key and the text that were put behind each other are the reason's text. Assumes nothing.
use Prim.Native.Nat.{◌≤◌}
use mathlib.Core.Path.{◌≡◌, refl}
use mathlib.Core.Bool.{true}
use native.Mathlib.Omega.{arith}
use lib.Dec.{ltb}
use lib.ListN.{length, length-take}
use borrow.Author.Tests.{lt-ltb}
use Rattle.text.specs.Bytes.{bytes}
use Rattle.text.specs.Texts.{contents}
use Rattle.text.proofs.Codes.{contents-short}
use Rattle.reason.specs.Reason.{reason_text}
use Rattle.reason.proofs.Parts.{put-end, put_whole}
use borrow.Author.Rules.{rules}
use Rattle.reason.proofs.put.Goals as goal

pub returns-then-reason-eq0 : goal.returns-then-reason-eq0
unfolding reason_text
returns-then-reason-eq0 c = rw c.if-reason-eq0.true c.put.ensures

pub slice_bounds-part-end : goal.slice_bounds-part-end
unfolding bytes
slice_bounds-part-end c =
    let short : length (contents c.args.reason) ≤ 20 =
    let n : length c.args.reason.bytes ≡ 20 = search rules in
    contents-short _ n
    in
    let end : c.put_text-end.result ≤ 25 =
    let s = short in
    let e = put-end _ _ refl refl s _ c.put_text-end.ensures.0 in
    omega arith
    in
    omega (arith, end)

pub slice_bounds-put-end-2 : goal.slice_bounds-put-end-2
unfolding bytes
slice_bounds-put-end-2 c =
    let short : length (contents c.args.reason) ≤ 20 =
    let n : length c.args.reason.bytes ≡ 20 = search rules in
    contents-short _ n
    in
    let end : c.put_text-end.result ≤ 25 =
    let e = put-end _ _ refl refl short _ c.put_text-end.ensures.0 in
    omega arith
    in
    rw length-take (omega (arith, end))

pub returns : goal.returns
unfolding reason_text bytes
returns c =
    let short : length (contents c.args.reason) ≤ 20 =
    let n : length c.args.reason.bytes ≡ 20 = search rules in
    contents-short _ n
    in
    let a = c.args in
    let there : ltb 0 a.reason.len ≡ true = lt-ltb 0 a.reason.len (let z = c.if-reason-eq0.false in omega arith) in
    let w = put_whole _ _ refl refl short _ _ c.put_text-end.ensures.0 c.put_text-end.ensures.1 in
    rw (there, ← w) c.put-2.ensures
