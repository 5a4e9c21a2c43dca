-- Document 01, "The slots, in order": what stands inside what, as a tree of blocks and fields. What a tree takes is in specs/Taking, and
-- which lines it lays out in specs/Sheets. A program walks rows: the rows of a tree, its table, stand at the end.
use Rattle.std.specs.Prelude.{ℕ, Bool, List, [], ◌∷◌}
use Rattle.bars.specs.Bars.{Bar}
use Rattle.layout.specs.Rows.{Row, field, opens, closes, many, mark, back, ends, bar}

-- a field: whether it is mandatory, its slot, and the text that its line begins with
pub record Field : Type 0 where
  pub must : Bool
  pub slot : ℕ
  pub key : List ℕ

-- one of many blocks: the slot and the text of its first field, and the fields behind that
pub record Member : Type 0 where
  pub slot : ℕ
  pub key : List ℕ
  pub inside : List Field

-- what is left of a block
--   last    its last line
--   line    a field, and what is left behind it
--   block   a block, mandatory or not, by its first line and what stands in it, and what is left behind it
--   group   many blocks in any order: whether each must come, whether one may open when all have come, their first line and
--           their last line, which they are, and what is left behind them
--   barred  what is left, behind what stops a line
pub data Tree : Type 0 where
  last : List ℕ → Tree
  line : Field → Tree → Tree
  block : Bool → List ℕ → Tree → Tree → Tree
  group : Bool → Bool → List ℕ → List ℕ → List Member → Tree → Tree
  barred : Bar → Tree → Tree

-- fields and then the last line
unfoldable pub chain : List Field → List ℕ → Tree
chain [] c = last c
chain (f ∷ fs) c = line f (chain fs c)

-- the text that the line of the next field begins with
unfoldable pub lead_key : Tree → List ℕ
lead_key (last c) = []
lead_key (line f t) = f.key
lead_key (block m o t u) = []
lead_key (group n a o c ms t) = []
lead_key (barred b t) = []

-- ---- a step of the code: the rows of a tree, in front of other rows

unfoldable pub field_rows : List Field → List Row → List Row
field_rows [] rows = rows
field_rows (f ∷ fs) rows = field f.must f.slot f.key ∷ field_rows fs rows

unfoldable pub member_rows : List ℕ → List Member → List Row → List Row
member_rows c [] rows = ends ∷ rows
member_rows c (m ∷ ms) rows = mark m.slot m.key ∷ field_rows m.inside (back c ∷ member_rows c ms rows)

unfoldable pub rows_in : Tree → List Row → List Row
rows_in (last c) rows = closes c ∷ rows
rows_in (line f t) rows = field f.must f.slot f.key ∷ rows_in t rows
rows_in (block m o t u) rows = opens m o ∷ rows_in t (rows_in u rows)
rows_in (group n a o c ms t) rows = many n a o ∷ member_rows c ms (rows_in t rows)
rows_in (barred b t) rows = bar b ∷ rows_in t rows

-- the table of a tree
unfoldable pub table_of : Tree → List Row
table_of t = rows_in t []
