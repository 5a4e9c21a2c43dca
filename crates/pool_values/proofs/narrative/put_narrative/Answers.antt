-- `pool_values::narrative::put_narrative` meets its contract: the parts that were put into the line are the narrative. Assumes nothing.
use Prim.Native.Nat.{◌≤◌}
use mathlib.Core.Path.{◌≡◌, refl}
use native.Mathlib.Omega.{arith}
use lib.ListN.{length, take, length-take}
use Rattle.text.specs.Bytes.{bytes}
use Rattle.reason.specs.Reason.{reason_text}
use Rattle.reason.proofs.Laws.{reason-room}
use Rattle.pool_values.specs.Values.{narrative}
use Rattle.pool_values.proofs.Narratives.{cdr-short, delivery-short}
use Rattle.pool_values.proofs.Widths.{behind-cdr, behind-reason, whole}
use borrow.Author.Rules.{rules}
use Rattle.pool_values.proofs.narrative.put_narrative.Goals as goal
use Rattle.pool_values.proofs.narrative.put_narrative.Goals.{After-put-end}

pub put_delivery-dated-requires : goal.put_delivery-dated-requires
put_delivery-dated-requires c =
    let marked : c.put_cdr-marked.result ≤ 14 =
    behind-cdr _ _ _ refl refl (cdr-short _) c.put-behind.ensures c.put_cdr-marked.ensures
    in
    omega (arith, marked)

short : (c : After-put-end) → length (reason_text c.args.reason) ≤ 25
short c =
    let n : length c.args.reason.bytes ≡ 20 = search rules in
    reason-room _ n

end : (c : After-put-end) → c.put-end.result ≤ 52
end c = behind-reason _ _ _ refl refl (cdr-short _) c.put-behind.ensures c.put_cdr-marked.ensures _ _ (delivery-short _) (short c) c.put_delivery-dated.ensures c.put-end.ensures

-- what then stands in front is the narrative
told : (c : After-put-end) → take c.put-end.result c.put-end.new.buf ≡ narrative c.args.cdr c.args.delivery c.args.reason
unfolding narrative bytes
told c = whole _ _ _ refl refl (cdr-short _) c.put-behind.ensures c.put_cdr-marked.ensures _ _ (delivery-short _) (short c) c.put_delivery-dated.ensures c.put-end.ensures

pub slice_bounds-line-end : goal.slice_bounds-line-end
slice_bounds-line-end c = omega (arith, end (goal.at.slice_bounds-line-end c).After-put-end)

pub slice_bounds-put-end-4 : goal.slice_bounds-put-end-4
slice_bounds-put-end-4 c = let h = end (goal.at.slice_bounds-put-end-4 c).After-put-end in rw length-take (omega arith)

pub returns : goal.returns
returns c =
    let w = (goal.at.returns c).After-put-end in
    let h = end w in
    let e = c.put.ensures in
    rw (← told w) (e.0, e.1, rw length-take (omega arith))
