-- `answer_listing::without_issuer` meets its contract. Assumes nothing.
use lib.ListN.{length-take}
use native.Mathlib.Omega.{arith}
use Rattle.text.specs.Bytes.{bytes}
use Rattle.listing.proofs.Laws.{none_is}
use Rattle.answer_listing.proofs.Laws.{short_none, short-is}
use Rattle.answer_listing.proofs.without_issuer.Goals as goal

pub returns-then-n-lt4 : goal.returns-then-n-lt4
unfolding bytes
returns-then-n-lt4 c = short_none _ c.if-n-lt4.true _ (none_is _ c.of.ensures)

pub slice_bounds-put-end-2 : goal.slice_bounds-put-end-2
slice_bounds-put-end-2 c = rw length-take (omega arith)

pub returns : goal.returns
returns c = short-is _ c.if-n-lt4.false _ _ c.put.ensures.1 c.put-2.ensures.1 _ c.of-2.ensures
