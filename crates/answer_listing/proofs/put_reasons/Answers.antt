-- `answer_listing::put_reasons` meets its contract. Assumes nothing.
-- the record's last field is an array of ten
use mathlib.Core.Path.{◌≡◌}
use lib.ListN.{length}
use native.Mathlib.Omega.{arith}
use Rattle.text.specs.Bytes.{bytes}
use Rattle.answer_listing.proofs.Laws.{none_left, some_left, refused-parts, none-parts, some-parts, none-put}
use borrow.Author.Rules.{rules}
use Rattle.answer_listing.proofs.put_reasons.Goals as goal

pub returns-then-reading-ne0 : goal.returns-then-reading-ne0
unfolding bytes
returns-then-reading-ne0 c = none-put _ (refused-parts _ c.if-reading-ne0.true) _ _ c.put.ensures

pub returns-then-first-eq0 : goal.returns-then-first-eq0
unfolding bytes
returns-then-first-eq0 c =
    let long : length c.args.reading.held.reasons ≡ 10 = search rules in
    let e = none_left _ long 32 0 (omega arith) _ c.reason_at-first.ensures c.if-first-eq0.true in
    none-put _ (none-parts _ c.if-reading-ne0.false e) _ _ c.put-then-first-eq0.ensures

pub returns : goal.returns
returns c =
    let long : length c.args.reading.held.reasons ≡ 10 = search rules in
    let l : length c.reason_at-first.result.code.bytes ≡ 20 = search rules in
    let e = some_left _ long 32 0 (omega arith) _ c.reason_at-first.ensures l c.if-first-eq0.false in
    rw (← some-parts c.args.reading c.if-reading-ne0.false e) c.put_codes.ensures
