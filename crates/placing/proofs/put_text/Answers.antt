-- `placing::put_text` meets its contract. Assumes nothing.
use mathlib.Core.Path.{◌≡◌}
use lib.ListN.{length}
use Rattle.text.proofs.Codes.{contents-short}
use borrow.Author.Rules.{rules}
use Rattle.placing.proofs.put_text.Goals as goal

pub returns : goal.returns
returns c =
    let e = c.put_text.ensures in
    let n : length c.args.text.bytes ≡ 20 = search rules in
    (e.0, e.1, contents-short _ n)
