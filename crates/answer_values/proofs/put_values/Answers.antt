-- `answer_values::put_values` meets its contract: the blocks put the values of all slots. Assumes nothing.
-- there are 35 places, by their type
use Prim.Native.Nat.{suc, ◌≤◌}
use mathlib.Core.Path.{◌≡◌, refl, sym, ap, ◌∙◌}
use mathlib.Core.List.{[], ◌∷◌, flatten}
use lib.ListN.{length, set, length-set}
use Rattle.fill.specs.Runs.{over_run}
use Rattle.fill.specs.Places.{ends}
use Rattle.fill.proofs.Runs.{length_run}
use Rattle.fill.proofs.Places.{none_kept, stored, more, all-places}
use Rattle.answer_values.specs.Values.{reason_values, values}
use Rattle.answer_values.proofs.Puts.{many-values, ten-reasons}
use borrow.Author.Rules.{rules}
use Rattle.answer_values.proofs.put_values.Goals as goal

pub shape_of-text : goal.shape_of-text
unfolding values
shape_of-text c =
    let many : length c.args.places.now ≡ 35 =
    let p = c.args.places.now in
    let n : length (set (set p 0 0) 1 0) ≡ 35 = search rules in
    sym (length-set p 0 0) ∙ sym (length-set (set p 0 0) 1 0) ∙ n
    in
    let put : (c.put_two.new.text ≡ over_run c.args.text.now 0 (values c.args.answer)) × (c.put_two.new.places ≡ 0 ∷ ends c.args.text.now 0 (values c.args.answer)) × (length (flatten (values c.args.answer)) ≤ 787) =
    let a = c.args in
    let text = a.text.now in
    let ps = set a.places.now 0 0 in
    all-places text a.places.now (values a.answer) 787 (many ∙ sym (ap suc (many-values a.answer)))
    (more text ps 0 1 2 ([] ∷ []) _ 0 787 refl (stored text ps 0 1 ([] ∷ []) (0 ∷ []) 0 (none_kept text 0) refl)
    (more _ _ _ 2 5 _ _ 43 744 refl c.put_general-links.ensures
    (more _ _ _ 5 12 _ _ 140 604 refl c.put_links-status.ensures
    (more _ _ _ 12 13 _ _ 14 590 refl c.put_status-reasons.ensures
    (more _ _ _ 13 33 (reason_values a.answer 0 10) _ 550 40 (ten-reasons a.answer) c.put_reasons-header.ensures c.put_two.ensures)))))
    in
    ap length put.0 ∙ length_run _ _ _

pub returns : goal.returns
unfolding values
returns c =
    let many : length c.args.places.now ≡ 35 =
    let p = c.args.places.now in
    let n : length (set (set p 0 0) 1 0) ≡ 35 = search rules in
    sym (length-set p 0 0) ∙ sym (length-set (set p 0 0) 1 0) ∙ n
    in
    let put : (c.put_two.new.text ≡ over_run c.args.text.now 0 (values c.args.answer)) × (c.put_two.new.places ≡ 0 ∷ ends c.args.text.now 0 (values c.args.answer)) × (length (flatten (values c.args.answer)) ≤ 787) =
    let a = c.args in
    let text = a.text.now in
    let ps = set a.places.now 0 0 in
    all-places text a.places.now (values a.answer) 787 (many ∙ sym (ap suc (many-values a.answer)))
    (more text ps 0 1 2 ([] ∷ []) _ 0 787 refl (stored text ps 0 1 ([] ∷ []) (0 ∷ []) 0 (none_kept text 0) refl)
    (more _ _ _ 2 5 _ _ 43 744 refl c.put_general-links.ensures
    (more _ _ _ 5 12 _ _ 140 604 refl c.put_links-status.ensures
    (more _ _ _ 12 13 _ _ 14 590 refl c.put_status-reasons.ensures
    (more _ _ _ 13 33 (reason_values a.answer 0 10) _ 550 40 (ten-reasons a.answer) c.put_reasons-header.ensures c.put_two.ensures)))))
    in
    put
