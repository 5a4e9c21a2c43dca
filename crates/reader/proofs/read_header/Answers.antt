use Prim.Native.Nat.{ℕ}
use lib.ListN.{replicate}
use mathlib.Core.Path.{refl}
use native.Mathlib.Omega.{arith}
use Rattle.lines.specs.Verdicts.{refused, pass}
use Rattle.lines.proofs.Lined.{Lined}
use Rattle.stretches.specs.Stretches.{slot_count}
use Rattle.reader.specs.Header.{head_starts, head_ends}
use Rattle.reader.proofs.Passes.{begin, over, placed-in, line-in, again}
use Rattle.reader.proofs.read_header.Goals as goal

pub loop-i-init : goal.loop-i-init
unfolding pass refused
loop-i-init c = begin _ _ _ (replicate {A = ℕ} slot_count 0) (replicate {A = ℕ} slot_count 0) refl refl

pub slice_bounds-first_fault-count : goal.slice_bounds-first_fault-count
slice_bounds-first_fault-count c =
    let here : Lined c.args.message.now c.loop-i.i c.loop-i.at c.line_at-line.result =
    line-in _ _ _ _ _ _ _ _ _ _ c.loop-i.invariant _ c.line_at-line.ensures
    in
    here.starts

pub slice_bounds-first_fault-start : goal.slice_bounds-first_fault-start
slice_bounds-first_fault-start c =
    let here : Lined c.args.message.now c.loop-i.i c.loop-i.at c.line_at-line.result =
    line-in _ _ _ _ _ _ _ _ _ _ c.loop-i.invariant _ c.line_at-line.ensures
    in
    here.starts

pub slice_bounds-first_fault-end : goal.slice_bounds-first_fault-end
slice_bounds-first_fault-end c =
    let here : Lined c.args.message.now c.loop-i.i c.loop-i.at c.line_at-line.result =
    line-in _ _ _ _ _ _ _ _ _ _ c.loop-i.invariant _ c.line_at-line.ensures
    in
    here.stops

pub keep-requires : goal.keep-requires
keep-requires c = omega (arith, placed-in _ _ _ _ _ _ _ _ _ _ c.loop-i.invariant, c.well_formed.0.1)

pub loop-i-preserved : goal.loop-i-preserved
loop-i-preserved c =
    again _ _ _ _ _ _ _ _ _ _ c.loop-i.invariant _ c.line_at-line.ensures c.loop-i-test.true _ _ _
    c.first_fault-fault.ensures c.keep.ensures.0 c.keep.ensures.1

pub returns : goal.returns
unfolding head_starts head_ends
returns c = let o = over _ _ _ _ _ _ _ _ _ _ c.loop-i.invariant c.loop-i-test.false in rw (o.0, o.1, o.2)
