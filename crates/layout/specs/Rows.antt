-- Document 01, "The slots, in order": the table of a message as rows, one below the other, and the bytes that a program
-- holds of it.
use Rattle.std.specs.Prelude.{ℕ, ◌*◌, ◌/◌, ◌%◌, Bool, true, false, cond, List, [], ◌∷◌, map, ltb, length, take, drop, get_or}
use Rattle.text.specs.Bytes.{parts}
use Rattle.bars.specs.Bars.{Bar, surplus, only}
use Rattle.layout.specs.declared.Kind.{Kind}

-- a row of the table
--   field   a line that is mandatory or not, its slot, and the text that it begins with: tag and qualifier
--   opens   the first line of a block that is mandatory or not; closes its last line (`-` closes the message)
--   many    the first line of blocks that stand in any order, told apart by their first field: whether each must come, and
--           whether one may open when all have come
--   mark    the first field of one of them: its slot, and the text that it begins with
--   back    the last line of one of them
--   ends    behind the last of them
--   bar     what stops a line
pub data Row : Type 0 where
  field : Bool → ℕ → List ℕ → Row
  opens : Bool → List ℕ → Row
  closes : List ℕ → Row
  many : Bool → Bool → List ℕ → Row
  mark : ℕ → List ℕ → Row
  back : List ℕ → Row
  ends : Row
  bar : Bar → Row

-- the text that a field's row begins with, where it is the next row
unfoldable pub next_key : List Row → List ℕ
next_key [] = []
next_key (field m s k ∷ rows) = k
next_key (opens m o ∷ rows) = []
next_key (closes c ∷ rows) = []
next_key (many n a o ∷ rows) = []
next_key (mark s k ∷ rows) = []
next_key (back c ∷ rows) = []
next_key (ends ∷ rows) = []
next_key (bar b ∷ rows) = []

-- ---- the bytes of a table, sixteen to a row: the kind of the row, its slot (of `surplus` its number), the length of its text, and the
-- text (of `only` its words)

-- the kinds are numbered as they stand here, from 0; any other number is `ends` too
unfoldable pub row_of : ℕ → ℕ → List ℕ → Row
row_of kind slot key =
    get_or (ends ∷ field true slot key ∷ field false slot key ∷ opens true key ∷ opens false key ∷ closes key
    ∷ many false true key ∷ many true false key ∷ mark slot key ∷ back key ∷ bar (surplus slot key) ∷ bar (only key) ∷ []) kind ends

-- the kind of a row by its number, as the code names it
unfoldable pub kind_of : ℕ → Kind
kind_of kind =
    get_or (Kind.End ∷ Kind.Field ∷ Kind.MayField ∷ Kind.Opens ∷ Kind.MayOpen ∷ Kind.Closes
    ∷ Kind.Many ∷ Kind.OneMore ∷ Kind.Mark ∷ Kind.ManyClose ∷ Kind.Surplus ∷ Kind.Only ∷ [])
    kind Kind.End

-- a length past the thirteen bytes of a row's text counts by its rest
unfoldable pub key_of : List ℕ → List ℕ
key_of t = take (get_or t 2 0 % 14) (drop 3 t)

-- the text of a row by its place; behind the last row there is none
unfoldable pub text_at : List ℕ → ℕ → List ℕ
text_at t row = cond (ltb row (length t / 16)) (key_of (drop (row * 16) t)) []

unfoldable pub first_row : List ℕ → Row
first_row t = row_of (get_or t 0 0) (get_or t 1 0) (key_of t)

unfoldable pub rows_of : List ℕ → List Row
rows_of t = map first_row (parts 16 (length t / 16) t)
