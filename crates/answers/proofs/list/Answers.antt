use Prim.Native.Nat.{◌≤◌, ◌<◌, ◌-◌}
use mathlib.Core.Path.{◌≡◌}
use lib.ListN.{length, length-take}
use native.Mathlib.Omega.{arith}
use borrow.Author.Rules.{rules}
use Rattle.batch.proofs.Answers.{farther}
use Rattle.answer_values.specs.Mt509.{mt509}
use Rattle.answers.proofs.Laws.{ends-within}
use Rattle.answers.proofs.list.Goals as goal

pub loop-position-init : goal.loop-position-init
loop-position-init c = (omega arith, omega arith, search rules)

pub slice_bounds-row-end : goal.slice_bounds-row-end
slice_bounds-row-end c =
    let sized : (c.put_row-size.result ≤ length c.put_row-size.new.buf) × (length c.put_row-size.new.buf ≡ length c.loop-position.row) =
    ends-within _ _ c.put_row-size.ensures.0 c.put_row-size.ensures.1
    in
    sized.0

pub slice_bounds-write_all-end : goal.slice_bounds-write_all-end
slice_bounds-write_all-end c =
    let sized : (c.put_row-size.result ≤ length c.put_row-size.new.buf) × (length c.put_row-size.new.buf ≡ length c.loop-position.row) =
    ends-within _ _ c.put_row-size.ensures.0 c.put_row-size.ensures.1
    in
    let h = sized in rw length-take (omega arith)

pub overflow_add-message : goal.overflow_add-message
overflow_add-message c =
    let onward : (c.loop-position.position < c.next-found.result.position) × (c.next-found.result.position ≤ length c.args.batch.now) =
    farther mt509 _ _ _ c.next-found.ensures c.loop-position-test.true
    in
    let h = onward in omega arith

pub loop-position-smaller : goal.loop-position-smaller
loop-position-smaller c =
    let onward : (c.loop-position.position < c.next-found.result.position) × (c.next-found.result.position ≤ length c.args.batch.now) =
    farther mt509 _ _ _ c.next-found.ensures c.loop-position-test.true
    in
    let h = onward in omega arith

pub loop-position-preserved : goal.loop-position-preserved
loop-position-preserved c =
    let onward : (c.loop-position.position < c.next-found.result.position) × (c.next-found.result.position ≤ length c.args.batch.now) =
    farther mt509 _ _ _ c.next-found.ensures c.loop-position-test.true
    in
    let sized : (c.put_row-size.result ≤ length c.put_row-size.new.buf) × (length c.put_row-size.new.buf ≡ length c.loop-position.row) =
    ends-within _ _ c.put_row-size.ensures.0 c.put_row-size.ensures.1
    in
    let h = onward in
    let l = sized in
    (h.1, omega arith, omega arith)
