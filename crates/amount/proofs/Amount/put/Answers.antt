-- `amount::Amount::put` meets its contract. Assumes nothing.
use Prim.Native.Nat.{◌≤◌}
use mathlib.Core.Path.{◌≡◌, sym, ◌∙◌}
use mathlib.Core.Bool.{true}
use lib.ListN.{length-take}
use native.Mathlib.Omega.{arith}
use borrow.Author.Tests.{not-true, not-false}
use Rattle.text.proofs.Laws.{rest_of}
use Rattle.amount.specs.Amounts.{in_form}
use Rattle.amount.proofs.Laws.{few-decimals}
use Rattle.amount.proofs.Noughts.{text-none, line-length, lead-within, text-line}
use Rattle.amount.proofs.Amount.put.Goals as goal

pub returns-then-not-in_form : goal.returns-then-not-in_form
returns-then-not-in_form c = rw (text-none _ (sym c.in_form.ensures ∙ not-true _ c.if-not-in_form.true-raw)) c.put.ensures

pub spread_out-line-requires : goal.spread_out-line-requires
spread_out-line-requires c =
    let formed : in_form c.args.self ≡ true =
    sym c.in_form.ensures ∙ not-false _ c.if-not-in_form.false-raw
    in
    few-decimals _ formed

pub slice_bounds-line-count : goal.slice_bounds-line-count
slice_bounds-line-count c =
    let formed : in_form c.args.self ≡ true =
    sym c.in_form.ensures ∙ not-false _ c.if-not-in_form.false-raw
    in
    few-decimals _ formed

pub slice_bounds-leading-length : goal.slice_bounds-leading-length
slice_bounds-leading-length c =
    let formed : in_form c.args.self ≡ true =
    sym c.in_form.ensures ∙ not-false _ c.if-not-in_form.false-raw
    in
    let d = few-decimals _ formed in
    let l = line-length _ formed _ c.spread_out-line.ensures in
    rw length-take (omega arith)

pub slice_bounds-put-count : goal.slice_bounds-put-count
slice_bounds-put-count c =
    let formed : in_form c.args.self ≡ true =
    sym c.in_form.ensures ∙ not-false _ c.if-not-in_form.false-raw
    in
    let lead : c.leading-from.result ≤ 15 =
    lead-within _ formed _ c.spread_out-line.ensures _ c.leading-from.ensures
    in
    lead

pub slice_bounds-put-start : goal.slice_bounds-put-start
slice_bounds-put-start c =
    let formed : in_form c.args.self ≡ true =
    sym c.in_form.ensures ∙ not-false _ c.if-not-in_form.false-raw
    in
    let lead : c.leading-from.result ≤ 15 =
    lead-within _ formed _ c.spread_out-line.ensures _ c.leading-from.ensures
    in
    lead

pub returns : goal.returns
returns c =
    let formed : in_form c.args.self ≡ true =
    sym c.in_form.ensures ∙ not-false _ c.if-not-in_form.false-raw
    in
    let l = line-length _ formed _ c.spread_out-line.ensures in
    let t = text-line _ formed _ c.spread_out-line.ensures _ c.leading-from.ensures in
    rw (← t, ← rest_of c.leading-from.result 15 c.spread_out-line.result l) c.put-2.ensures
