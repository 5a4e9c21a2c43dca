-- The rows of a table with the values of its slots: which rows stand, and what each of them puts. For a table that is written as
-- a tree it is the lines of the tree filled in (sheets' specs/Filled), which proofs/Trees says.
use Rattle.std.specs.Prelude.{ℕ, zero, suc, Bool, true, false, ◌&&◌, ◌||◌, cond, List, [], ◌∷◌, ◌++◌, eqb, length}
use Rattle.text.specs.Bytes.{bytes}
use Rattle.stretches.specs.Stretches.{stretch_of}
use Rattle.forms.specs.Slots.{slot_at}
use Rattle.layout.specs.Rows.{Row, field, opens, closes, many, mark, back, ends, bar, rows_of}
use Rattle.sheets.specs.Filled.{some}

-- ---- what stands behind the text of a slot

-- what is lent: the bytes of the slots, with the fixed text of each; the slots that the layout makes optional; and a text in which
-- the value of each slot is a stretch
pub record Lent : Type 0 where
  pub slots : List ℕ
  pub optional : List ℕ
  pub text : List ℕ
  pub starts : List ℕ
  pub ends : List ℕ

abbrev pub lent : List ℕ → List ℕ → List ℕ → List ℕ → List ℕ → Lent
lent slots optional text from to = record { slots = slots; optional = optional; text = text; starts = from; ends = to }

abbrev pub is_any : List ℕ → ℕ → Bool
is_any [] slot = false
is_any (n ∷ ns) slot = eqb slot n || is_any ns slot

abbrev pub value_at : Lent → ℕ → List ℕ
value_at l slot = stretch_of l.text l.starts l.ends slot

-- the fixed text in front of a value of n bytes; nothing where an optional slot has none
unfoldable pub fixed_in : List ℕ → List ℕ → ℕ → ℕ → List ℕ
fixed_in slots optional slot n = cond (is_any optional slot && eqb n 0) [] (slot_at slots slot).fixed

abbrev pub front_at : Lent → ℕ → List ℕ
front_at l slot = fixed_in l.slots l.optional slot (length (value_at l slot))

-- both
abbrev pub behind_at : Lent → ℕ → List ℕ
behind_at l slot = front_at l slot ++ value_at l slot

abbrev pub parts_at : Lent → ℕ → List (List ℕ)
parts_at l slot = front_at l slot ∷ value_at l slot ∷ []

-- ---- which rows stand: the blocks that are open are counted from one that does not stand

unfoldable pub lower : ℕ → ℕ
lower zero = zero
lower (suc n) = n

unfoldable pub deeper : Row → ℕ → ℕ
deeper (field m s k) deep = deep
deeper (opens m o) deep = suc deep
deeper (closes c) deep = lower deep
deeper (many n a o) deep = deep
deeper (mark s k) deep = suc deep
deeper (back c) deep = lower deep
deeper ends deep = deep
deeper (bar b) deep = deep

-- something stands behind the text of a row's slot
unfoldable pub has_value : (ℕ → List ℕ) → Row → Bool
has_value value (field m s k) = some (value s)
has_value value (opens m o) = false
has_value value (closes c) = false
has_value value (many n a o) = false
has_value value (mark s k) = some (value s)
has_value value (back c) = false
has_value value ends = false
has_value value (bar b) = false

-- for one of the rows, up to the end of so many blocks
unfoldable pub any_rows : (ℕ → List ℕ) → ℕ → List Row → Bool
any_rows value deep [] = false
any_rows value zero (r ∷ rows) = false
any_rows value (suc deep) (r ∷ rows) = has_value value r || any_rows value (deeper r (suc deep)) rows

-- a row stands, with the rows behind it
unfoldable pub stands : (ℕ → List ℕ) → List Row → Row → Bool
stands value rows (field m s k) = m || some (value s)
stands value rows (opens m o) = m || any_rows value 1 rows
stands value rows (closes c) = true
stands value rows (many n a o) = true
stands value rows (mark s k) = some (value s)
stands value rows (back c) = true
stands value rows ends = true
stands value rows (bar b) = true

-- ---- what the rows put

-- the first or last line of a block, and the line of a slot
abbrev pub with_ending : List ℕ → List (List ℕ)
with_ending l = l ∷ bytes "\r\n" ∷ []

abbrev pub held_parts : (ℕ → List (List ℕ)) → ℕ → List ℕ → List (List ℕ)
held_parts parts slot key = key ∷ (parts slot ++ (bytes "\r\n" ∷ []))

-- the first line of the last many blocks, none in front of the first
unfoldable pub opener : List ℕ → Row → List ℕ
opener first (field m s k) = first
opener first (opens m o) = first
opener first (closes c) = first
opener first (many n a o) = o
opener first (mark s k) = first
opener first (back c) = first
opener first ends = first
opener first (bar b) = first

-- what a row that stands puts
unfoldable pub puts : (ℕ → List (List ℕ)) → List ℕ → Row → List (List ℕ)
puts parts first (field m s k) = held_parts parts s k
puts parts first (opens m o) = with_ending o
puts parts first (closes c) = with_ending c
puts parts first (many n a o) = []
puts parts first (mark s k) = first ∷ bytes "\r\n" ∷ held_parts parts s k
puts parts first (back c) = with_ending c
puts parts first ends = []
puts parts first (bar b) = []

-- what all put; `off` counts the blocks since one that does not stand
unfoldable pub walk : (ℕ → List ℕ) → (ℕ → List (List ℕ)) → List ℕ → ℕ → List Row → List (List ℕ)
walk value parts first off [] = []
walk value parts first zero (r ∷ rows) =
    let on = walk value parts (opener first r) zero rows in
    let past = walk value parts (opener first r) (deeper r zero) rows in
    cond (stands value rows r) (puts parts first r ++ on) past
walk value parts first (suc off) (r ∷ rows) = walk value parts (opener first r) (deeper r (suc off)) rows

-- the parts of a table's bytes
unfoldable pub filling : Lent → List ℕ → List (List ℕ)
filling l rows = walk (behind_at l) (parts_at l) [] 0 (rows_of rows)
