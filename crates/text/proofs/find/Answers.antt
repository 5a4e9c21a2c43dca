-- `text::find` meets its contract. Assumes nothing.
use Rattle.std.proofs.Common.{rules, eqb}
use borrow.Author.Tests.{tests}
use Rattle.std.proofs.lemmas.Iterator.{YieldsList-from_slice}
use Rattle.std.proofs.lemmas.Iterator.Search.{position_from_yields_List}
use Rattle.text.proofs.Scans.{find-is}
use Rattle.text.proofs.find.Goals as goal

pub returns : goal.returns
returns c =
    let byte = c.args.byte in
    let part = c.args.part.now in
    let found = position_from_yields_List (λ x. eqb x byte) _ _ c.position.result c.position.ensures.ran (YieldsList-from_slice part cc) (λ x b q k. search (rules, tests)) in
    find-is byte part _ _ found c.unwrap_or.ensures
