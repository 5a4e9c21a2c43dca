-- The walk of specs/Filling, a row at a time. It serves the private steps only, and need not be believed.
use Rattle.std.specs.Prelude.{ℕ, ◌+◌, ◌*◌, ◌≡◌, Bool, ◌&&◌, cond, List, [], ◌∷◌, eqb, drop, get_or}
use Rattle.text.specs.Bytes.{bytes}
use Rattle.layout.specs.declared.Kind.{Kind}
use Rattle.layout.specs.Rows.{Row, kind_of, text_at, first_row, rows_of}
use Rattle.fill.specs.Runs.{over_run, behind_run}
use Rattle.fill.specs.Filling.{Lent, is_any, behind_at, parts_at, deeper, stands, opener, puts}

-- the number of a kind in a table's bytes
abbrev pub number : Kind → ℕ
number Kind.End = 0
number Kind.Field = 1
number Kind.MayField = 2
number Kind.Opens = 3
number Kind.MayOpen = 4
number Kind.Closes = 5
number Kind.Many = 6
number Kind.OneMore = 7
number Kind.Mark = 8
number Kind.ManyClose = 9
number Kind.Surplus = 10
number Kind.Only = 11

-- the kind of a row of a table's bytes
abbrev pub number_at : List ℕ → ℕ → ℕ
number_at rows row = number (kind_of (get_or rows (row * 16) 0))

-- the kinds of rows that have a slot, and of the first and last lines of blocks
abbrev pub is_held : ℕ → Bool
is_held kind = is_any (1 ∷ 2 ∷ 8 ∷ []) kind

abbrev pub is_edge : ℕ → Bool
is_edge kind = is_any (3 ∷ 4 ∷ 5 ∷ 9 ∷ []) kind

-- the line of a slot: its text, its fixed text and its value
abbrev pub line_parts : List ℕ → List ℕ → List ℕ → List (List ℕ)
line_parts key front value = key ∷ front ∷ value ∷ bytes "\r\n" ∷ []

unfoldable pub is_on : (ℕ → List ℕ) → ℕ → List Row → Row → Bool
is_on value off rows r = eqb off 0 && stands value rows r

unfoldable pub next_parts : (ℕ → List ℕ) → (ℕ → List (List ℕ)) → List ℕ → ℕ → List Row → Row → List (List ℕ)
next_parts value parts first off rows r = cond (is_on value off rows r) (puts parts first r) []

unfoldable pub next_off : (ℕ → List ℕ) → ℕ → List Row → Row → ℕ
next_off value off rows r = cond (is_on value off rows r) 0 (deeper r off)

-- at a row of a table's bytes, with the row of the last many blocks: what is put, the count behind it, and the first line
abbrev pub put_at : Lent → List ℕ → ℕ → ℕ → ℕ → List (List ℕ)
put_at l rows row off last =
    next_parts (behind_at l) (parts_at l) (text_at rows last) off (drop (row + 1) (rows_of rows)) (first_row (drop (row * 16) rows))

abbrev pub off_at : Lent → List ℕ → ℕ → ℕ → ℕ
off_at l rows row off = next_off (behind_at l) off (drop (row + 1) (rows_of rows)) (first_row (drop (row * 16) rows))

abbrev pub opener_at : List ℕ → ℕ → ℕ → List ℕ
opener_at rows row last = opener (text_at rows last) (first_row (drop (row * 16) rows))

-- so a row was put: what the buffer holds, the place behind it, the count, and the row of the last many blocks
abbrev pub Next : Lent → List ℕ → ℕ → ℕ → ℕ → List ℕ → ℕ → List ℕ → ℕ → ℕ → ℕ → Type 0
Next l rows row off last buf at buf' at' off' last' =
    (buf' ≡ over_run buf at (put_at l rows row off last))
    × (at' ≡ behind_run buf at (put_at l rows row off last))
    × (off' ≡ off_at l rows row off)
    × (text_at rows last' ≡ opener_at rows row last)
