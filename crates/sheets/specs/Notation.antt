-- How the fields of a tree are written down, so that their texts read as text.
use Rattle.std.specs.Prelude.{ℕ, Bool, true, false, List, [], ◌∷◌}
use Prim.Native.String.{String}
use Rattle.text.specs.Bytes.{bytes}
use Rattle.bars.specs.Bars.{surplus}
use Rattle.sheets.specs.Trees.{Field, Member, Tree, block, barred, chain}

abbrev pub must : Bool
must = true

abbrev pub may : Bool
may = false

-- a field: whether it is mandatory, its slot, and its tag and qualifier
abbrev pub field : Bool → ℕ → String → Field
field m s k = record { must = m; slot = s; key = bytes k }

-- one of many blocks that holds a single field
abbrev pub link : ℕ → String → Member
link s k = record { slot = s; key = bytes k; inside = [] }

-- a block that may repeat, each time with fields of its own, by its first and its last line: none stands where the one before it does
-- not, and one more than there are gets a number
unfoldable pub repeated : ℕ → List ℕ → List ℕ → List (List Field) → Tree → Tree
repeated n o c [] t = barred (surplus n o) t
repeated n o c (fs ∷ fss) t = block may o (chain fs c) (repeated n o c fss t)
