-- `lines::text_length` meets its contract. Assumes nothing.
use Rattle.std.proofs.Common.{rules, not}
use borrow.Author.Tests.{tests}
use Rattle.std.proofs.lemmas.Iterator.{YieldsList-from_slice}
use Rattle.std.proofs.lemmas.Iterator.Search.{position_from_yields_List}
use Rattle.text.specs.Classes.{is_between}
use Rattle.lines.proofs.Scans.{front-is}
use Rattle.lines.proofs.text_length.Goals as goal

pub returns : goal.returns
unfolding is_between
returns c =
    let part = c.args.part.now in
    let found = position_from_yields_List (λ x. not (is_between 32 126 x)) _ _ c.position.result c.position.ensures.ran (YieldsList-from_slice part cc) (λ x b q k. search (rules, tests)) in
    front-is part _ _ found c.unwrap_or.ensures
