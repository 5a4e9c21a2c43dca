-- `calendar::Moment::read` meets its contract. Assumes nothing.
-- all fourteen bytes are digits from there on
use mathlib.Core.Path.{◌≡◌, refl, sym, ap, ◌∙◌}
use mathlib.Core.Bool.{true}
use lib.ListN.{length, length-take}
use native.Mathlib.Omega.{arith}
use borrow.Author.Tests.{not-true, not-false}
use Rattle.text.specs.Classes.{all_in}
use Rattle.text.specs.declared.Class.TheVariants.{Digit}
use Rattle.text.proofs.Laws.{rest_of}
use Rattle.calendar.proofs.Parts.{not-fourteen, front-wrong, back-wrong, overlap, no-date, no-time, moment-good}
use Rattle.calendar.proofs.Moment.read.Goals as goal

pub returns-then-part-ne14 : goal.returns-then-part-ne14
returns-then-part-ne14 c = not-fourteen _ c.if-part-ne14.true

pub slice_bounds-all_in-end : goal.slice_bounds-all_in-end
slice_bounds-all_in-end c = rw length-take (omega arith)

pub returns-then-not-all_in : goal.returns-then-not-all_in
returns-then-not-all_in c = front-wrong _ (sym c.all_in.ensures ∙ not-true _ c.if-not-all_in.true-raw)

pub returns-then-not-all_in-2 : goal.returns-then-not-all_in-2
returns-then-not-all_in-2 c =
    let s = c.args.part.now in
    back-wrong s (sym (ap (all_in Digit) (rest_of 6 _ s refl)) ∙ sym c.all_in-2.ensures ∙ not-true _ c.if-not-all_in-2.true-raw)

pub date_in-requires : goal.date_in-requires
date_in-requires c =
    let size : length c.args.part.now ≡ 14 =
    c.if-part-ne14.false
    in
    let all : all_in Digit c.args.part.now ≡ true =
    let s = c.args.part.now in
    overlap s (sym c.all_in.ensures ∙ not-false _ c.if-not-all_in.false-raw)
    (sym (ap (all_in Digit) (rest_of 6 _ s refl)) ∙ sym c.all_in-2.ensures ∙ not-false _ c.if-not-all_in-2.false-raw)
    in
    let n = size in (omega arith, all)

pub returns-in_err-date : goal.returns-in_err-date
returns-in_err-date c =
    let size : length c.args.part.now ≡ 14 =
    c.if-part-ne14.false
    in
    let all : all_in Digit c.args.part.now ≡ true =
    let s = c.args.part.now in
    overlap s (sym c.all_in.ensures ∙ not-false _ c.if-not-all_in.false-raw)
    (sym (ap (all_in Digit) (rest_of 6 _ s refl)) ∙ sym c.all_in-2.ensures ∙ not-false _ c.if-not-all_in-2.false-raw)
    in
    c.from_residual.ensures ∙ no-date _ size all (sym c.in_err-date.ensures)

pub time_in-requires : goal.time_in-requires
time_in-requires c =
    let size : length c.args.part.now ≡ 14 =
    c.if-part-ne14.false
    in
    let all : all_in Digit c.args.part.now ≡ true =
    let s = c.args.part.now in
    overlap s (sym c.all_in.ensures ∙ not-false _ c.if-not-all_in.false-raw)
    (sym (ap (all_in Digit) (rest_of 6 _ s refl)) ∙ sym c.all_in-2.ensures ∙ not-false _ c.if-not-all_in-2.false-raw)
    in
    let n = size in
    (omega arith, all)

pub returns-in_err-time : goal.returns-in_err-time
returns-in_err-time c =
    let size : length c.args.part.now ≡ 14 =
    c.if-part-ne14.false
    in
    let all : all_in Digit c.args.part.now ≡ true =
    let s = c.args.part.now in
    overlap s (sym c.all_in.ensures ∙ not-false _ c.if-not-all_in.false-raw)
    (sym (ap (all_in Digit) (rest_of 6 _ s refl)) ∙ sym c.all_in-2.ensures ∙ not-false _ c.if-not-all_in-2.false-raw)
    in
    c.from_residual-in_err-time.ensures ∙ no-time _ size all _ (sym c.in_ok-date.ensures) (sym c.in_err-time.ensures)

pub returns : goal.returns
returns c =
    let size : length c.args.part.now ≡ 14 =
    c.if-part-ne14.false
    in
    let all : all_in Digit c.args.part.now ≡ true =
    let s = c.args.part.now in
    overlap s (sym c.all_in.ensures ∙ not-false _ c.if-not-all_in.false-raw)
    (sym (ap (all_in Digit) (rest_of 6 _ s refl)) ∙ sym c.all_in-2.ensures ∙ not-false _ c.if-not-all_in-2.false-raw)
    in
    moment-good _ size all _ (sym c.in_ok-date.ensures) _ (sym c.in_ok-time.ensures)
