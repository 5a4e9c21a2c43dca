-- The mathematics of the crate's functions: the widths of the code's texts are those of their slots, and tests by stretches of their list.
-- Assumes nothing.
use mathlib.Core.Path.{◌≡◌, refl, sym, ◌∙◌}
use mathlib.Core.Bool.{Bool, ◌&&◌}
use mathlib.Core.List.{List, [], ◌∷◌}
use lib.ListN.{take, drop}
use Rattle.text.specs.Texts.{in_form as text_form}
use Rattle.text.specs.Texts.{Text}
use Rattle.sheets.specs.Slots.{field_slots, own_slots, member_slots, slots_of, first_slots, must_slots}
use Rattle.sheets.specs.Sheets.{has}
use Rattle.table.specs.Table.{slots, slot_of}
use Rattle.table.specs.Tree.{general, pool as pool-block, details, tree}
use Rattle.trade.specs.declared.Party.{Party}
use Rattle.trade.specs.declared.Trade.{Trade}
use Rattle.format.specs.Writable.{hold}
use Rattle.values.specs.Writable.{fitted, tests, in_form}
use Rattle.format.proofs.BySlot.{fitted-must, fitted-may, hold-split, hold-from}

-- ---- the widths of the code's texts are those of their slots

pub record Widths : Type 0 where
  pub seme : (x : Text) → fitted 1 x ≡ text_form 1 16 x
  pub mast : (x : Text) → fitted 4 x ≡ text_form 0 16 x
  pub prev : (x : Text) → fitted 5 x ≡ text_form 0 16 x
  pub list : (x : Text) → fitted 6 x ≡ text_form 0 16 x
  pub buyer : (x : Text) → fitted 12 x ≡ text_form 4 4 x
  pub buyer-contra : (x : Text) → fitted 13 x ≡ text_form 0 16 x
  pub buyer-trader : (x : Text) → fitted 14 x ≡ text_form 0 20 x
  pub seller : (x : Text) → fitted 15 x ≡ text_form 4 4 x
  pub seller-contra : (x : Text) → fitted 16 x ≡ text_form 0 16 x
  pub seller-trader : (x : Text) → fitted 17 x ≡ text_form 0 20 x
  pub cusip : (x : Text) → fitted 19 x ≡ text_form 9 9 x
  pub pool : (x : Text) → fitted 20 x ≡ text_form 0 9 x
  pub password : (x : Text) → fitted 28 x ≡ text_form 0 12 x
  pub sender : (x : Text) → fitted 29 x ≡ text_form 1 8 x

pub widths : Widths
unfolding slot_of slots slots_of member_slots own_slots field_slots must_slots first_slots tree general pool-block details has
widths =
    record {
      seme = λ x. fitted-must tree slot_of 1 1 16 x refl refl;
      mast = λ x. fitted-may tree slot_of 4 16 x refl refl;
      prev = λ x. fitted-may tree slot_of 5 16 x refl refl;
      list = λ x. fitted-may tree slot_of 6 16 x refl refl;
      buyer = λ x. fitted-must tree slot_of 12 4 4 x refl refl;
      buyer-contra = λ x. fitted-may tree slot_of 13 16 x refl refl;
      buyer-trader = λ x. fitted-may tree slot_of 14 20 x refl refl;
      seller = λ x. fitted-must tree slot_of 15 4 4 x refl refl;
      seller-contra = λ x. fitted-may tree slot_of 16 16 x refl refl;
      seller-trader = λ x. fitted-may tree slot_of 17 20 x refl refl;
      cusip = λ x. fitted-must tree slot_of 19 9 9 x refl refl;
      pool = λ x. fitted-may tree slot_of 20 9 x refl refl;
      password = λ x. fitted-must tree slot_of 28 0 12 x refl refl;
      sender = λ x. fitted-must tree slot_of 29 1 8 x refl refl;
    }

abbrev pub party_tests : Party → Bool
party_tests p = hold (text_form 4 4 p.code ∷ text_form 0 16 p.reference ∷ text_form 0 20 p.trader ∷ [])

buyer-is : (t : Trade) → party_tests t.buyer ≡ hold (take 3 (drop 12 (tests t)))
unfolding tests hold
buyer-is t = rw (widths.buyer _, widths.buyer-contra _, widths.buyer-trader _)

seller-is : (t : Trade) → party_tests t.seller ≡ hold (take 3 (drop 15 (tests t)))
unfolding tests hold
seller-is t = rw (widths.seller _, widths.seller-contra _, widths.seller-trader _)

-- ---- the tests of a record, a stretch of their list at a time

pub formed : (t : Trade) {a b c d e f : Bool} → a ≡ hold (take 7 (tests t)) → b ≡ hold (take 5 (drop 7 (tests t)))
    → c ≡ party_tests t.buyer → d ≡ party_tests t.seller
    → e ≡ hold (take 4 (drop 18 (tests t))) → f ≡ hold (drop 22 (tests t))
    → (a && (b && (c && (d && (e && f))))) ≡ in_form t
unfolding in_form
formed t p q r s u v =
    let l : List Bool = tests t in
    rw (p, q, r ∙ buyer-is t, s ∙ seller-is t, u, v) (sym (hold-split 7 l ∙ rw (hold-from 5 7 l, hold-from 3 12 l, hold-from 3 15 l, hold-from 4 18 l)))
