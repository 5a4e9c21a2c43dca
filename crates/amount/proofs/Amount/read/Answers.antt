-- `amount::Amount::read` meets its contract. Assumes nothing.
use Prim.Native.Nat.{◌+◌, ◌≤◌}
use mathlib.Core.Path.{refl, ◌∙◌}
use lib.ListN.{length}
use native.Mathlib.Omega.{arith}
use Rattle.text.proofs.Laws.{rest_of}
use Rattle.digits.proofs.Spelling.{ran-of}
use Rattle.amount.proofs.Noughts.{too_long, no-comma, inside, no_digit, no_whole, few, parts_are}
use Rattle.amount.proofs.Amount.read.Goals as goal

pub returns-then-part-gt15 : goal.returns-then-part-gt15
returns-then-part-gt15 c = too_long _ c.if-part-gt15.true

pub returns-then-cut-part : goal.returns-then-cut-part
returns-then-cut-part c = no-comma _ c.if-part-gt15.false _ _ (ran-of _ _ c.front-run.ensures) c.if-cut-part.true

pub bounds-part-cut : goal.bounds-part-cut
bounds-part-cut c = inside _ c.if-part-gt15.false _ _ (ran-of _ _ c.front-run.ensures) c.if-cut-part.false

pub returns-then-part-cut-ne44 : goal.returns-then-part-cut-ne44
returns-then-part-cut-ne44 c = no_digit _ c.if-part-gt15.false _ _ (ran-of _ _ c.front-run.ensures) c.if-cut-part.false c.if-part-cut-ne44.true

pub returns-then-cut-eq0 : goal.returns-then-cut-eq0
returns-then-cut-eq0 c = no_whole _ c.if-part-gt15.false _ _ (ran-of _ _ c.front-run.ensures) c.if-cut-part.false c.if-part-cut-ne44.false c.if-cut-eq0.true

pub overflow_add-cut : goal.overflow_add-cut
overflow_add-cut c =
    let behind : c.front-run.result.len + 1 ≤ length c.args.part.now =
    let l = inside _ c.if-part-gt15.false _ _ (ran-of _ _ c.front-run.ensures) c.if-cut-part.false in
    omega arith
    in
    let b = behind in omega arith

pub slice_bounds-from_parts-count : goal.slice_bounds-from_parts-count
slice_bounds-from_parts-count c =
    let behind : c.front-run.result.len + 1 ≤ length c.args.part.now =
    let l = inside _ c.if-part-gt15.false _ _ (ran-of _ _ c.front-run.ensures) c.if-cut-part.false in
    omega arith
    in
    behind

pub slice_bounds-from_parts-start : goal.slice_bounds-from_parts-start
slice_bounds-from_parts-start c =
    let behind : c.front-run.result.len + 1 ≤ length c.args.part.now =
    let l = inside _ c.if-part-gt15.false _ _ (ran-of _ _ c.front-run.ensures) c.if-cut-part.false in
    omega arith
    in
    behind

pub from_parts-requires : goal.from_parts-requires
from_parts-requires c = few _ c.if-part-gt15.false _ _ (ran-of _ _ c.front-run.ensures) c.if-cut-part.false c.if-part-cut-ne44.false c.if-cut-eq0.false _ (rest_of (c.front-run.result.len + 1) _ c.args.part.now refl)

pub returns : goal.returns
returns c = c.from_parts.ensures ∙ parts_are _ c.if-part-gt15.false _ _ (ran-of _ _ c.front-run.ensures) c.if-cut-part.false c.if-part-cut-ne44.false c.if-cut-eq0.false _ (rest_of (c.front-run.result.len + 1) _ c.args.part.now refl)
