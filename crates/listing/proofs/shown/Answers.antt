-- `listing::shown` meets its contract. Assumes nothing.
use mathlib.Core.Path.{◌≡◌, sym, ◌∙◌}
use lib.ListN.{length}
use Rattle.text.specs.Bytes.{bytes}
use Rattle.listing.proofs.Laws.{none_is, shown-none, shown-some, text-none, text-some}
use borrow.Author.Rules.{rules}
use Rattle.listing.proofs.shown.Goals as goal

pub returns-then-text-eq0 : goal.returns-then-text-eq0
unfolding bytes
returns-then-text-eq0 c =
    let e = c.if-text-eq0.true in
    (c.of.ensures ∙ text-none _ e, none_is _ c.of.ensures ∙ sym (shown-none _ e))

pub returns : goal.returns
returns c =
    let a = c.args in
    let n : length a.text.bytes ≡ 20 = search rules in
    (text-some _ c.if-text-eq0.false, shown-some _ n c.if-text-eq0.false)
