-- `pool_kinds::some_of` meets its contract: some letter and field beside each other are right. Assumes nothing.
use Rattle.std.proofs.Common.{◌≡◌, ◌∙◌, rules, tests}
use Rattle.std.proofs.lemmas.Iterator.{YieldsList-from_slice, YieldsList-from_zip}
use Rattle.std.proofs.lemmas.Iterator.Search.{any_from_yields_List}
use Rattle.std.specs.List.{list_any, zip}
use Rattle.pool_kinds.proofs.Letters.{right, some-right}
use Rattle.pool_kinds.proofs.some_of.Goals as goal

pub returns : goal.returns
returns c =
    let a = c.args in
    let found : c.any.result ≡ list_any (right a.letter a.is) (zip a.letters a.there) =
    any_from_yields_List (right a.letter a.is) c.any.new.self _ c.any.result c.any.ensures.ran (YieldsList-from_zip (YieldsList-from_slice a.letters cc) (YieldsList-from_slice a.there cc)) (λ x b q k. search (rules, tests))
    in
    found ∙ some-right a.letter a.is a.letters a.there
