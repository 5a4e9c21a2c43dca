-- `placing::put_words` meets its contract: a word is four bytes by its type. Assumes nothing.
use mathlib.Core.Path.{◌≡◌}
use mathlib.Core.List.{[], ◌∷◌}
use native.Mathlib.Omega.{arith}
use lib.ListN.{length}
use Rattle.fill.proofs.Places.{kept, behind, stored}
use borrow.Author.Rules.{rules}
use Rattle.placing.proofs.put_words.Goals as goal

pub returns : goal.returns
returns c =
    let first-four : length c.args.first ≡ 4 =
    search rules
    in
    let second-four : length c.args.second ≡ 4 =
    search rules
    in
    let f = first-four in
    let g = second-four in
    stored _ _ _ _ _ _ 8
    (behind _ _ (_ ∷ []) (_ ∷ []) (_ ∷ []) _ 4 4 (kept _ _ _ 4 (let e = c.put-one.ensures in (e.0, e.1, omega arith)))
    (kept _ _ _ 4 (let e = c.put-two.ensures in (e.0, e.1, omega arith))))
    c.keep.ensures
