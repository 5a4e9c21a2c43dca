-- `writer::amounts::within` meets its contract. Assumes nothing.
-- the shortest text in the part
use Prim.Native.Nat.{◌+◌, ◌≤◌}
use mathlib.Core.Path.{◌≡◌, ap, ◌∙◌}
use native.Mathlib.Omega.{arith}
use lib.ListN.{length}
use Rattle.stretches.specs.Stretches.{between}
use Rattle.amount.specs.Amounts.{shortest_of}
use Rattle.amount.specs.declared.Trim.{Trim}
use Rattle.format.proofs.Moved.{moved-fits}
use Rattle.writer.proofs.amounts.within.Goals as goal

pub overflow_add-result : goal.overflow_add-result
overflow_add-result c =
    let part-is : c.shortest-part.result ≡ shortest_of (between c.args.message.now c.args.start c.args.end) =
    c.shortest-part.ensures ∙ ap shortest_of c.part.ensures
    in
    let fit : (c.args.start + c.shortest-part.result.from ≤ 18446744073709551615) × (c.args.start + c.shortest-part.result.to ≤ 18446744073709551615) =
    let a : c.args.start ≤ 18446744073709551615 = omega arith in
    let b : length c.args.message.now ≤ 18446744073709551615 = omega arith in
    rw part-is (moved-fits c.args.message.now c.args.start c.args.end 18446744073709551615 a b)
    in
    let f = fit.0 in omega arith

pub overflow_add-result-2 : goal.overflow_add-result-2
overflow_add-result-2 c =
    let part-is : c.shortest-part.result ≡ shortest_of (between c.args.message.now c.args.start c.args.end) =
    c.shortest-part.ensures ∙ ap shortest_of c.part.ensures
    in
    let fit : (c.args.start + c.shortest-part.result.from ≤ 18446744073709551615) × (c.args.start + c.shortest-part.result.to ≤ 18446744073709551615) =
    let a : c.args.start ≤ 18446744073709551615 = omega arith in
    let b : length c.args.message.now ≤ 18446744073709551615 = omega arith in
    rw part-is (moved-fits c.args.message.now c.args.start c.args.end 18446744073709551615 a b)
    in
    let f = fit.1 in omega arith

pub returns : goal.returns
returns c =
    let part-is : c.shortest-part.result ≡ shortest_of (between c.args.message.now c.args.start c.args.end) =
    c.shortest-part.ensures ∙ ap shortest_of c.part.ensures
    in
    let at = c.args.start in
    let placed : Trim → Trim = λ t. record { from = at + t.from; to = at + t.to } in
    ap placed part-is
