-- `amount::leading` meets its contract: the noughts end at the first byte that is none. Assumes nothing.
use Rattle.std.proofs.Common.{◌≡◌, refl, ◌∙◌, rules, tests}
use Rattle.std.proofs.lemmas.Iterator.{YieldsList-from_slice}
use Rattle.std.proofs.lemmas.Iterator.Search.{position_from_yields_List}
use Rattle.std.specs.List.{position}
use Rattle.amount.proofs.Noughts.{other, first-other}
use Rattle.amount.proofs.leading.Goals as goal

pub returns : goal.returns
returns c =
    let found : c.position.result ≡ position other c.args.part.now =
    position_from_yields_List other _ _ c.position.result c.position.ensures.ran (YieldsList-from_slice _ c.iter.ensures.rest) (λ x b q k. search (rules, tests))
    in
    c.unwrap_or.ensures ∙ rw found (first-other c.args.part.now _ refl)
