-- `amount::shortest` meets its contract. Assumes nothing.
-- the comma stands within the part from there on
use Prim.Native.Nat.{◌+◌, ◌≤◌}
use mathlib.Core.Path.{refl, sym}
use lib.ListN.{length, length-take}
use native.Mathlib.Omega.{arith}
use Rattle.text.proofs.Laws.{rest_of}
use Rattle.amount.specs.Amounts.{whole}
use Rattle.amount.proofs.Shortening.{no-comma, behind, parts_are, few-left}
use Rattle.amount.proofs.shortest.Goals as goal

pub returns-then-part-cut : goal.returns-then-part-cut
unfolding whole
returns-then-part-cut c = no-comma _ _ c.find-cut.ensures (sym c.if-part-cut.true)

pub slice_bounds-needless-end : goal.slice_bounds-needless-end
unfolding whole
slice_bounds-needless-end c =
    let behind-is : c.find-cut.result + 1 ≤ length c.args.part.now =
    behind _ _ c.find-cut.ensures (λ h. c.if-part-cut.false (sym h))
    in
    let b = behind-is in rw length-take (omega arith)

pub overflow_add-cut : goal.overflow_add-cut
unfolding whole
overflow_add-cut c =
    let behind-is : c.find-cut.result + 1 ≤ length c.args.part.now =
    behind _ _ c.find-cut.ensures (λ h. c.if-part-cut.false (sym h))
    in
    let b = behind-is in omega arith

pub slice_bounds-lasting-count : goal.slice_bounds-lasting-count
unfolding whole
slice_bounds-lasting-count c =
    let behind-is : c.find-cut.result + 1 ≤ length c.args.part.now =
    behind _ _ c.find-cut.ensures (λ h. c.if-part-cut.false (sym h))
    in
    behind-is

pub slice_bounds-lasting-start : goal.slice_bounds-lasting-start
unfolding whole
slice_bounds-lasting-start c =
    let behind-is : c.find-cut.result + 1 ≤ length c.args.part.now =
    behind _ _ c.find-cut.ensures (λ h. c.if-part-cut.false (sym h))
    in
    behind-is

pub overflow_add-result : goal.overflow_add-result
unfolding whole
overflow_add-result c =
    let behind-is : c.find-cut.result + 1 ≤ length c.args.part.now =
    behind _ _ c.find-cut.ensures (λ h. c.if-part-cut.false (sym h))
    in
    let b = behind-is in omega arith

pub overflow_add-result-2 : goal.overflow_add-result-2
unfolding whole
overflow_add-result-2 c =
    let behind-is : c.find-cut.result + 1 ≤ length c.args.part.now =
    behind _ _ c.find-cut.ensures (λ h. c.if-part-cut.false (sym h))
    in
    let f = c.find-cut.result in
    let l = few-left c.args.part.now f behind-is _ (rest_of (f + 1) _ c.args.part.now refl) _ c.lasting-kept.ensures in
    omega arith

pub returns : goal.returns
unfolding whole
returns c =
    let f = c.find-cut in
    parts_are c.args.part.now _ f.ensures (λ h. c.if-part-cut.false (sym h)) _ (rest_of (f.result + 1) _ c.args.part.now refl) _ _
    c.needless-from.ensures c.lasting-kept.ensures
