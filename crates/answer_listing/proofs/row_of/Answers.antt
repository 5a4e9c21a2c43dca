-- `answer_listing::row_of` meets its contract. Assumes nothing.
use Rattle.text.specs.Bytes.{bytes}
use Rattle.listing.proofs.Laws.{none_is}
use Rattle.answer_listing.proofs.Laws.{refused-is, told_is}
use Rattle.answer_listing.proofs.row_of.Goals as goal

pub returns-then-reading-ne0 : goal.returns-then-reading-ne0
unfolding bytes
returns-then-reading-ne0 c =
    let none = none_is _ c.of-none.ensures in
    refused-is _ c.args.reading _ c.decimal-message.ensures.1 c.decimal-number.ensures.1 c.decimal-line.ensures.1
    c.if-reading-ne0.true none none none none

pub returns : goal.returns
returns c =
    told_is _ c.args.reading _ c.decimal-message.ensures.1 c.decimal-number.ensures.1 c.decimal-line.ensures.1
    c.if-reading-ne0.false c.status_text.ensures c.shown.ensures.1 c.shown-2.ensures.1 c.shown-3.ensures.1
