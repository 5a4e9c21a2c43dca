-- `values::put_values` meets its contract: the blocks put the values of all slots. Assumes nothing.
-- there are 31 places, by their type
use Prim.Native.Nat.{◌≤◌}
use mathlib.Core.Path.{◌≡◌, refl, sym, ap, ◌∙◌}
use mathlib.Core.List.{[], ◌∷◌, flatten}
use lib.ListN.{length, set, length-set}
use Rattle.fill.specs.Runs.{over_run}
use Rattle.fill.proofs.Runs.{length_run}
use Rattle.values.specs.Values.{values}
use Rattle.fill.specs.Places.{ends}
use Rattle.fill.proofs.Places.{none_kept, stored, more, all-places}
use borrow.Author.Rules.{rules}
use Rattle.values.proofs.put_values.Goals as goal

pub shape_of-text : goal.shape_of-text
unfolding values
shape_of-text c =
    let many : length c.args.places.now ≡ 31 =
    let p = c.args.places.now in
    let n : length (set (set p 0 0) 1 0) ≡ 31 = search rules in
    sym (length-set p 0 0) ∙ sym (length-set (set p 0 0) 1 0) ∙ n
    in
    let put : (c.put_header.new.text ≡ over_run c.args.text.now 0 (values c.args.trade)) × (c.put_header.new.places ≡ 0 ∷ ends c.args.text.now 0 (values c.args.trade)) × (length (flatten (values c.args.trade)) ≤ 398) =
    let a = c.args in
    let text = a.text.now in
    let ps = set a.places.now 0 0 in
    all-places text a.places.now (values a.trade) 398 many
    (more text ps 0 1 2 ([] ∷ []) _ 0 398 refl (stored text ps 0 1 ([] ∷ []) (0 ∷ []) 0 (none_kept text 0) refl)
    (more _ _ _ 2 8 _ _ 98 300 refl c.put_general-details.ensures
    (more _ _ _ 8 13 _ _ 45 255 refl c.put_details-buyer.ensures
    (more _ _ _ 13 16 _ _ 60 195 refl c.put_three-seller.ensures
    (more _ _ _ 16 19 _ _ 60 135 refl c.put_three-security.ensures
    (more _ _ _ 19 23 _ _ 95 40 refl c.put_security-header.ensures c.put_header.ensures))))))
    in
    ap length put.0 ∙ length_run _ _ _

pub returns : goal.returns
unfolding values
returns c =
    let many : length c.args.places.now ≡ 31 =
    let p = c.args.places.now in
    let n : length (set (set p 0 0) 1 0) ≡ 31 = search rules in
    sym (length-set p 0 0) ∙ sym (length-set (set p 0 0) 1 0) ∙ n
    in
    let put : (c.put_header.new.text ≡ over_run c.args.text.now 0 (values c.args.trade)) × (c.put_header.new.places ≡ 0 ∷ ends c.args.text.now 0 (values c.args.trade)) × (length (flatten (values c.args.trade)) ≤ 398) =
    let a = c.args in
    let text = a.text.now in
    let ps = set a.places.now 0 0 in
    all-places text a.places.now (values a.trade) 398 many
    (more text ps 0 1 2 ([] ∷ []) _ 0 398 refl (stored text ps 0 1 ([] ∷ []) (0 ∷ []) 0 (none_kept text 0) refl)
    (more _ _ _ 2 8 _ _ 98 300 refl c.put_general-details.ensures
    (more _ _ _ 8 13 _ _ 45 255 refl c.put_details-buyer.ensures
    (more _ _ _ 13 16 _ _ 60 195 refl c.put_three-seller.ensures
    (more _ _ _ 16 19 _ _ 60 135 refl c.put_three-security.ensures
    (more _ _ _ 19 23 _ _ 95 40 refl c.put_security-header.ensures c.put_header.ensures))))))
    in
    put
