-- `answer::reason_at` meets its contract. Assumes nothing.
-- the record's last field is an array of ten
use mathlib.Core.Path.{◌≡◌}
use lib.ListN.{length}
use Rattle.answer.specs.Records.{no_reason}
use Rattle.answer.proofs.Reasons.{there, none}
use borrow.Author.Rules.{rules}
use Rattle.answer.proofs.reason_at.Goals as goal

pub returns-then-number-ge10 : goal.returns-then-number-ge10
unfolding no_reason
returns-then-number-ge10 c =
    let long : length c.args.answer.reasons ≡ 10 = search rules in
    none c.args.answer _ long c.if-number-ge10.true

pub returns : goal.returns
returns c =
    let long : length c.args.answer.reasons ≡ 10 = search rules in
    there c.args.answer _ long c.if-number-ge10.false _
