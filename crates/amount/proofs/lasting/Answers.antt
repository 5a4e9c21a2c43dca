-- `amount::lasting` meets its contract: what is left ends at the last byte that is no nought. Assumes nothing.
use Rattle.std.proofs.Common.{◌≡◌, sym, ◌∙◌, rules, tests, arith, reverse}
use Rattle.std.proofs.lemmas.Iterator.Adapters.{YieldsList-from_rev_slice}
use Rattle.std.proofs.lemmas.Iterator.Search.{position_from_yields_List}
use Rattle.std.proofs.lemmas.List.{length-reverse}
use Rattle.std.specs.List.{position}
use Rattle.amount.specs.Amounts.{noughts}
use Rattle.amount.proofs.Noughts.{other, first-other, last-other}
use Rattle.amount.proofs.lasting.Goals as goal

pub returns : goal.returns
returns c =
    let part = c.args.part.now in
    let found : c.position.result ≡ position other (reverse part) =
    position_from_yields_List other _ _ c.position.result c.position.ensures.ran (YieldsList-from_rev_slice part cc) (λ x b q k. search (rules, tests))
    in
    let gone : c.unwrap_or-noughts.result ≡ noughts (reverse part) = c.unwrap_or-noughts.ensures ∙ rw found (first-other (reverse part) _ (sym (length-reverse part))) in
    omega (arith, gone, last-other part)
