-- `answer_listing::status_text` meets its contract. Assumes nothing.
-- where the value ends, and that the bytes are as many as they were
use Prim.Native.Nat.{◌≤◌}
use mathlib.Core.Path.{◌≡◌, ap, ◌∙◌}
use lib.ListN.{length, length-take}
use native.Mathlib.Omega.{arith}
use Rattle.answer_listing.specs.Rows.{without_issuer}
use Rattle.answer_listing.proofs.Laws.{value-is, value-within}
use Rattle.answer_listing.proofs.status_text.Goals as goal

pub slice_bounds-value-end : goal.slice_bounds-value-end
slice_bounds-value-end c =
    let within : (c.put-end.result ≤ 14) × (length c.put-end.new.buf ≡ 14) =
    value-within _ c.put-end.ensures
    in
    let h = within in omega arith

pub slice_bounds-without_issuer-end : goal.slice_bounds-without_issuer-end
slice_bounds-without_issuer-end c =
    let within : (c.put-end.result ≤ 14) × (length c.put-end.new.buf ≡ 14) =
    value-within _ c.put-end.ensures
    in
    let h = within in rw length-take (omega arith)

pub returns : goal.returns
returns c = c.without_issuer.ensures ∙ ap without_issuer (value-is _ c.put-end.ensures)
