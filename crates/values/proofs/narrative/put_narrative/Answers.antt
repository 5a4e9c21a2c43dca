-- `values::narrative::put_narrative` meets its contract: the parts that were put into the line are the narrative. Assumes nothing.
use Prim.Native.Nat.{◌≤◌}
use mathlib.Core.Path.{◌≡◌, refl, ap, ◌∙◌}
use native.Mathlib.Omega.{arith}
use lib.ListN.{length, take, length-take}
use Rattle.text.specs.Bytes.{bytes}
use Rattle.reason.specs.Reason.{reason_text}
use Rattle.reason.proofs.Laws.{reason-room}
use Rattle.values.specs.Values.{narrative}
use Rattle.values.proofs.Narratives.{period-short}
use Rattle.values.proofs.Widths.{service-long, behind-word, behind-reason, whole, narrative-is}
use borrow.Author.Rules.{rules}
use Rattle.values.proofs.narrative.put_narrative.Goals as goal

pub put_period-next-requires : goal.put_period-next-requires
put_period-next-requires c =
    let nine : length c.service_text-word.result ≡ 9 =
    ap length c.service_text-word.ensures ∙ service-long _
    in
    let first : c.put-behind.result ≡ 9 =
    behind-word _ _ refl nine c.put-behind.ensures
    in
    omega (arith, first)

pub slice_bounds-line-end : goal.slice_bounds-line-end
slice_bounds-line-end c =
    let nine : length c.service_text-word.result ≡ 9 =
    ap length c.service_text-word.ensures ∙ service-long _
    in
    let short : length (reason_text c.args.reason) ≤ 25 =
    let n : length c.args.reason.bytes ≡ 20 = search rules in
    reason-room _ n
    in
    let third : c.put-end.result ≤ 40 =
    behind-reason _ _ refl nine c.put-behind.ensures _ (period-short _) c.put_period-next.ensures _ short c.put-end.ensures
    in
    omega (arith, third)

pub slice_bounds-put-end-4 : goal.slice_bounds-put-end-4
slice_bounds-put-end-4 c =
    let nine : length c.service_text-word.result ≡ 9 =
    ap length c.service_text-word.ensures ∙ service-long _
    in
    let short : length (reason_text c.args.reason) ≤ 25 =
    let n : length c.args.reason.bytes ≡ 20 = search rules in
    reason-room _ n
    in
    let third : c.put-end.result ≤ 40 =
    behind-reason _ _ refl nine c.put-behind.ensures _ (period-short _) c.put_period-next.ensures _ short c.put-end.ensures
    in
    let h = third in rw length-take (omega arith)

pub returns : goal.returns
returns c =
    let nine : length c.service_text-word.result ≡ 9 =
    ap length c.service_text-word.ensures ∙ service-long _
    in
    let short : length (reason_text c.args.reason) ≤ 25 =
    let n : length c.args.reason.bytes ≡ 20 = search rules in
    reason-room _ n
    in
    let third : c.put-end.result ≤ 40 =
    behind-reason _ _ refl nine c.put-behind.ensures _ (period-short _) c.put_period-next.ensures _ short c.put-end.ensures
    in
    let told : take c.put-end.result c.put-end.new.buf ≡ narrative c.args.service c.args.period c.args.reason =
    whole _ _ refl nine c.put-behind.ensures _ (period-short _) c.put_period-next.ensures _ short c.put-end.ensures
    ∙ narrative-is _ _ _ _ c.service_text-word.ensures
    in
    let h = third in
    let e = c.put.ensures in
    rw (← told) (e.0, e.1, rw length-take (omega arith))
