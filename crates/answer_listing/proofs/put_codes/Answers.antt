use mathlib.Core.Path.{◌≡◌, refl}
use lib.ListN.{length}
use native.Mathlib.Omega.{arith}
use Rattle.answer_listing.proofs.Laws.{gone, go_on, one_more, none_left, some_left, all_left, none-long}
use borrow.Author.Rules.{rules}
use Rattle.answer_listing.proofs.put_codes.Goals as goal

pub loop-number-init : goal.loop-number-init
loop-number-init c = ((refl, refl), omega arith, refl)

pub returns-then-code-eq0 : goal.returns-then-code-eq0
returns-then-code-eq0 c =
    let long : length c.args.answer.reasons ≡ 10 = search rules in
    let e = none_left _ long _ _ c.loop-number-test.true _ c.reason_at-reason.ensures c.if-code-eq0.true in
    let g = gone _ _ _ _ _ c.loop-number.invariant.0 e in
    let k = none-long e in
    (g.0, g.1, omega arith)

pub loop-number-preserved : goal.loop-number-preserved
loop-number-preserved c =
    let long : length c.args.answer.reasons ≡ 10 = search rules in
    let l : length c.reason_at-reason.result.code.bytes ≡ 20 = search rules in
    let e = some_left _ long _ _ c.loop-number-test.true _ c.reason_at-reason.ensures l c.if-code-eq0.false in
    let m = one_more _ _ _ l e in
    (go_on _ _ _ _ _ c.loop-number.invariant.0 _ _ _ e c.put_code-end.ensures, omega arith, search rules)

pub returns : goal.returns
returns c =
    let long : length c.args.answer.reasons ≡ 10 = search rules in
    let ten : c.loop-number.number ≡ 10 = omega arith in
    let e = all_left _ long _ _ ten in
    let g = gone _ _ _ _ _ c.loop-number.invariant.0 e in
    let k = none-long e in
    (g.0, g.1, omega arith)
