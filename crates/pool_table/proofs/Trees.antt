-- The pool message's tree has what the theorems of sheets ask of a table, by computation.
-- Assumes nothing.
use mathlib.Core.Path.{◌≡◌, refl}
use mathlib.Core.Bool.{true}
use mathlib.Core.List.{[]}
use Rattle.text.specs.Bytes.{bytes, begins, same}
use Rattle.sheets.specs.Trees.{chain}
use Rattle.sheets.specs.Sheets.{has}
use Rattle.sheets.proofs.Checks.{keys_of, groups_of, good_slot, good_fields, good_members, good_tree, clash, avoids, none_of, apart_fields, later_apart, apart_members, unlike, apart, free_fields, free_members, free, with_fields, with_members, with_tree, once_members, once, field_slots, own_slots, member_slots, slots_of, disjoint, distinct, sole_members, sole, all_free, closed_members, heavy, tellable}
use Rattle.pool_table.specs.Tree.{general, security, details, tree}

-- every slot has its byte among those seen
pub good : good_tree tree ≡ true
unfolding tree general security details good_tree good_members good_fields good_slot
good = refl

-- no line has to choose between two rows
pub is-apart : apart tree ≡ true
unfolding tree general security details apart unlike apart_members apart_fields later_apart none_of avoids clash begins same bytes chain
is-apart = refl

-- the line `-` is the last of all
pub ends_at : free (bytes "-") true tree ≡ true
unfolding tree general security details free free_members free_fields begins same bytes
ends_at = refl

-- each qualifier of LINK and of a party is a slot of its own
pub is-once : once [] tree ≡ true
unfolding tree general security details once once_members with_tree with_members with_fields has
is-once = refl

-- every row has a slot of its own
pub is-sole : sole tree ≡ true
unfolding tree general security details sole sole_members distinct disjoint slots_of member_slots own_slots field_slots has
is-sole = refl

-- the first and last lines of LINK and of a party's block are no other row's
pub is-tellable : tellable tree ≡ true
unfolding tree general security details tellable heavy all_free closed_members groups_of keys_of free free_members free_fields apart_members apart_fields later_apart none_of avoids clash begins same bytes chain
is-tellable = refl
