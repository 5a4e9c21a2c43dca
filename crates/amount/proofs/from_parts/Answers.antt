-- `amount::from_parts` meets its contract. Assumes nothing.
use Prim.Native.Nat.{◌+◌, ◌*◌, ◌^◌, ◌<◌}
use mathlib.Core.Path.{sym, ◌∙◌}
use lib.ListN.{length-take}
use native.Mathlib.Omega.{arith}
use Rattle.amount.proofs.Noughts.{within, rest-wrong, room, parts-good}
use Rattle.amount.proofs.from_parts.Goals as goal

pub slice_bounds-read_digits-end : goal.slice_bounds-read_digits-end
slice_bounds-read_digits-end c =
    let a = c.args in
    let l = within a.whole a.rest.now _ c.lasting-decimals.ensures in
    rw length-take (omega arith)

pub returns-in_err-tail : goal.returns-in_err-tail
returns-in_err-tail c = c.from_residual.ensures ∙ rest-wrong c.args.whole _ _ c.lasting-decimals.ensures c.requires.0 c.requires.1 (sym c.in_err-tail.ensures)

pub overflow_mul-result : goal.overflow_mul-result
overflow_mul-result c =
    let bound : c.args.whole * c.ten_to.result + c.in_ok-tail.tail < 2 ^ 64 =
    room _ _ _ c.lasting-decimals.ensures c.requires.0 c.requires.1 _ _ (sym c.in_ok-tail.ensures) c.ten_to.ensures
    in
    let b = bound in omega arith

pub overflow_add-result : goal.overflow_add-result
overflow_add-result c =
    let bound : c.args.whole * c.ten_to.result + c.in_ok-tail.tail < 2 ^ 64 =
    room _ _ _ c.lasting-decimals.ensures c.requires.0 c.requires.1 _ _ (sym c.in_ok-tail.ensures) c.ten_to.ensures
    in
    let b = bound in omega arith

pub returns : goal.returns
returns c = parts-good _ _ _ c.lasting-decimals.ensures c.requires.0 c.requires.1 _ _ (sym c.in_ok-tail.ensures) c.ten_to.ensures
