-- `search::rest_of` meets its contract. Assumes nothing.
use Rattle.search.proofs.Lines.{rest-none, rest_some}
use Rattle.search.proofs.rest_of.Goals as goal

pub returns-then-end-from : goal.returns-then-end-from
returns-then-end-from c = rest-none _ _ _ c.if-end-from.true

pub returns : goal.returns
returns c = rest_some _ _ _ c.requires c.if-end-from.false
