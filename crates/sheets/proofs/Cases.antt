-- The worked cases of specs/Cases, and that their tree has what the theorems ask of a table, by computation.
-- Assumes nothing.
use mathlib.Core.Path.{◌≡◌, refl}
use mathlib.Core.Bool.{true}
use mathlib.Core.List.{[]}
use Rattle.text.specs.Bytes.{bytes, begins, same, parts}
use Rattle.bars.specs.Bars.{any_front, goes_on, strays, stops, bar_number}
use Rattle.layout.specs.Layout.{with_taken}
use Rattle.sheets.specs.Trees.{chain, lead_key}
use Rattle.sheets.specs.Notation.{repeated}
use Rattle.sheets.specs.Slots.{slots_of}
use Rattle.sheets.specs.Sheets.{has}
use Rattle.sheets.specs.Taking.{fit, next, seek, move_of, following, walk, taken_by}
use Rattle.sheets.specs.Cases.{tree, taking, Cases}
use Rattle.sheets.proofs.Checks.{good_slot, good_tree, clash, avoids, unlike, leads, apart_bar, apart, free, with_tree, once, disjoint, sole, groups_of, all_free, heavy, tellable}

pub cases : Cases
unfolding tree taking repeated chain lead_key bytes begins same parts any_front goes_on strays stops bar_number fit next seek move_of following walk taken_by with_taken has
cases =
    record {
      none = refl;
      one = refl;
      two = refl;
      three = refl;
      lacking = refl;
      other = refl;
      short = refl;
      again = refl;
      absent = refl;
      late = refl;
    }

record Tests : Type 0 where
  good : good_tree tree ≡ true
  is-apart : apart tree ≡ true
  ends_at : free (bytes "-") true tree ≡ true
  is-once : once [] tree ≡ true
  is-sole : sole tree ≡ true
  is-tellable : tellable tree ≡ true

tests : Tests
unfolding tree repeated chain bytes begins same bar_number good_slot good_tree clash avoids unlike leads apart_bar apart free with_tree once disjoint sole slots_of has groups_of all_free heavy tellable
tests = record { good = refl; is-apart = refl; ends_at = refl; is-once = refl; is-sole = refl; is-tellable = refl }
