-- `answer_values::reasons::put_reason` meets its contract. Assumes nothing.
use mathlib.Core.Path.{◌≡◌}
use mathlib.Core.List.{[], ◌∷◌}
use lib.ListN.{length}
use Rattle.remark.proofs.Laws.{contents-short}
use Rattle.fill.proofs.Places.{kept, behind, stored}
use borrow.Author.Rules.{rules}
use Rattle.answer_values.proofs.reasons.put_reason.Goals as goal

pub returns : goal.returns
returns c =
    let long : length c.args.reason.text.bytes ≡ 35 = search rules in
    stored _ _ _ _ _ _ 55
    (behind _ _ (_ ∷ []) (_ ∷ []) (_ ∷ []) _ 20 35 (kept _ _ _ 20 c.put_text-code.ensures)
    (kept _ _ _ 35 (let e = c.put-remark.ensures in (e.0, e.1, contents-short _ long))))
    c.keep.ensures
