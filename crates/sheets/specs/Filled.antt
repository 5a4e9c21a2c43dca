-- A table filled in: the sheet of values by their slots. A value is all that follows the text of its slot, and nothing where the
-- slot has none. A mandatory line always stands; one that is not, where it has a value; a block that is not mandatory, where
-- one of its slots has; and many blocks stand in the table's order.
use Rattle.std.specs.Prelude.{ℕ, Bool, true, false, ◌||◌, cond, List, [], ◌∷◌, ◌++◌, eqb}
use Rattle.sheets.specs.Trees.{Field, Member, Tree, last, line, block, group, barred}
use Rattle.sheets.specs.Sheets.{Entry, edge, item}

unfoldable pub some : List ℕ → Bool
some [] = false
some (b ∷ v) = true

-- the value of a slot in a sheet
unfoldable pub value_in : List Entry → ℕ → List ℕ
value_in [] s = []
value_in (edge o ∷ es) s = value_in es s
value_in (item i k v ∷ es) s = cond (eqb i s) v (value_in es s)

unfoldable pub any_field : (ℕ → List ℕ) → List Field → Bool
any_field value [] = false
any_field value (f ∷ fs) = some (value f.slot) || any_field value fs

unfoldable pub any_member : (ℕ → List ℕ) → List Member → Bool
any_member value [] = false
any_member value (m ∷ ms) = some (value m.slot) || (any_field value m.inside || any_member value ms)

-- one of the slots of what is left of a block has a value
unfoldable pub any_in : (ℕ → List ℕ) → Tree → Bool
any_in value (last c) = false
any_in value (line f t) = some (value f.slot) || any_in value t
any_in value (block m o t u) = any_in value t || any_in value u
any_in value (group n a o c ms t) = any_member value ms || any_in value t
any_in value (barred b t) = any_in value t

unfoldable pub filled_fields : (ℕ → List ℕ) → List Field → List ℕ → List Entry
filled_fields value [] c = edge c ∷ []
filled_fields value (f ∷ fs) c =
    let rest = filled_fields value fs c in
    cond (f.must || some (value f.slot)) (item f.slot f.key (value f.slot) ∷ rest) rest

unfoldable pub filled_members : (ℕ → List ℕ) → List ℕ → List ℕ → List Member → List Entry
filled_members value o c [] = []
filled_members value o c (m ∷ ms) =
    let rest = filled_members value o c ms in
    cond (some (value m.slot)) (edge o ∷ item m.slot m.key (value m.slot) ∷ (filled_fields value m.inside c ++ rest)) rest

unfoldable pub filled : (ℕ → List ℕ) → Tree → List Entry
filled value (last c) = edge c ∷ []
filled value (line f t) =
    let rest = filled value t in
    cond (f.must || some (value f.slot)) (item f.slot f.key (value f.slot) ∷ rest) rest
filled value (block m o t u) =
    let rest = filled value u in
    cond (m || any_in value t) (edge o ∷ (filled value t ++ rest)) rest
filled value (group n a o c ms t) = filled_members value o c ms ++ filled value t
filled value (barred b t) = filled value t
