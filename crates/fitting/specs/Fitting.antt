-- The row of a table that the line at the front of a text fits, seen from its first bytes on. What is said goes one way: where a row is
-- told, the table takes the line so; where none is, nothing is said.
use Rattle.std.specs.Prelude.{ℕ, ◌+◌, ◌-◌, ◌≤◌, ◌<◌, ◌≡◌, Bool, true, false, ◌&&◌, ◌||◌, cond, List, [], ◌∷◌, eqb, length, take, drop, Option, Some, None}
use Rattle.std.specs.Option.{option_map_or}
use Rattle.text.specs.Bytes.{begins, before}
use Rattle.text.specs.Classes.{is_between, printed}
use Rattle.lines.specs.Lines.{without_ending, ending_width}
use Rattle.bars.specs.Bars.{Bar, surplus, only, strays}
use Rattle.layout.specs.Rows.{Row, field, opens, closes, many, mark, back, ends, bar, next_key}
use Rattle.layout.specs.Layout.{moves, enters, takes, is_seen, lacks, step_of}
use Rattle.layout.specs.declared.Place.{Place}
use Rattle.layout.specs.declared.Step.{Step}
use Rattle.fitting.specs.declared.Fit.{Fit}
use Rattle.fitting.specs.declared.Glimpse.{Glimpse}

-- ---- the texts of a table are of 20 to 7E hex

unfoldable pub bar_text : Bar → List ℕ
bar_text (surplus n o) = o
bar_text (only ws) = ws

unfoldable pub row_text : Row → List ℕ
row_text (field m s k) = k
row_text (opens m o) = o
row_text (closes c) = c
row_text (many n a o) = o
row_text (mark s k) = k
row_text (back c) = c
row_text ends = []
row_text (bar b) = bar_text b

unfoldable pub clean_rows : List Row → Bool
clean_rows [] = true
clean_rows (r ∷ rows) = printed (row_text r) && clean_rows rows

-- ---- what is said of a line

-- a line ending, LF or CR LF, stands at the front of a text
unfoldable pub ends_line : List ℕ → Bool
ends_line s = option_map_or (is_between 1 2) (ending_width s) false

-- the text of the row that it fits is its first bytes; and where the text has an LF, the line up to its ending is taken so
pub record Fits (table : List Row) (here : Place) (seen s : List ℕ) (step : Step) (width : ℕ) : Type 0 where
  pub within : width ≤ length s
  pub text : printed (take width s) ≡ true
  pub good : step.number ≡ 0
  pub takes : length (before 10 s) < length s → step ≡ step_of table here seen (without_ending s)

-- the first or last line of a block is the text of its row and its ending; a field's has a value behind the text
unfoldable pub Fitted : List Row → Place → List ℕ → List ℕ → Option Fit → Type 0
Fitted table here seen s (Some (Fit.Edge step width)) = clean_rows table ≡ true → Fits table here seen s step width × (step.slot ≡ 0) × (ends_line (drop width s) ≡ true)
Fitted table here seen s (Some (Fit.Field step width)) = clean_rows table ≡ true → Fits table here seen s step width × (step.width ≡ width)
Fitted table here seen s None = Unit

-- ---- a step of the code: the text against one row, as layout holds a line against it (specs/Layout, `against` and `beneath`). It fits,
-- or goes further with the blocks that are being passed over and whether a mark was. What layout refuses is `Not`, and so is a mandatory
-- row that does not fit: no line behind it is good

-- the text begins with the first or last line of a block
unfoldable pub is_edge : List ℕ → List ℕ → Bool
is_edge s o = begins o s && ends_line (drop (length o) s)

-- a text that a bar may stop is not told; `key` is the text of the row behind the bar
unfoldable pub may_stop : Bar → List ℕ → List ℕ → Bool
may_stop (surplus n o) key s = begins o s
may_stop (only ws) key s = strays key ws s

-- a row of the block that the line stands in: `row` is its place in the table, `rows` are those behind it
unfoldable pub glimpse : Place → List ℕ → List ℕ → ℕ → List Row → Bool → Row → Glimpse
glimpse here seen s row rows unmarked (field m sl k) =
    cond (begins k s) (Glimpse.Field (takes here row sl (length k)) (length k)) (cond m Glimpse.Not (Glimpse.Further 0 unmarked))
glimpse here seen s row rows unmarked (opens m o) =
    cond (is_edge s o) (Glimpse.Edge (moves here (row + 1)) (length o)) (cond m Glimpse.Not (Glimpse.Further 1 unmarked))
glimpse here seen s row rows unmarked (closes c) = cond (is_edge s c) (Glimpse.Edge (moves here (row + 1)) (length c)) Glimpse.Not
glimpse here seen s row rows unmarked (many n a o) =
    cond (is_edge s o && (a || lacks seen rows)) (Glimpse.Edge (enters row) (length o))
    (cond (n && lacks seen rows) Glimpse.Not (Glimpse.Further 1 unmarked))
glimpse here seen s row rows unmarked (mark sl k) =
    cond (begins k s) (cond (is_seen seen sl) Glimpse.Not (Glimpse.Field (takes here row sl (length k)) (length k)))
    (Glimpse.Further 1 true)
glimpse here seen s row rows unmarked (back c) = cond (is_edge s c) (Glimpse.Edge (moves here here.back) (length c)) Glimpse.Not
glimpse here seen s row rows unmarked ends = Glimpse.Not
glimpse here seen s row rows unmarked (bar b) = cond (may_stop b (next_key rows) s) Glimpse.Not (Glimpse.Further 0 unmarked)

-- a row inside a block that is being passed over. A text that begins as the last line of one of many blocks is not told, whether it is that
-- line or not: its ending is not looked at
unfoldable pub glimpse_beneath : List ℕ → ℕ → Bool → Row → Glimpse
glimpse_beneath s deep unmarked (field m sl k) =
    cond (unmarked && (eqb deep 1 && begins k s)) Glimpse.Not (Glimpse.Further deep unmarked)
glimpse_beneath s deep unmarked (opens m o) = Glimpse.Further (deep + 1) unmarked
glimpse_beneath s deep unmarked (closes c) = Glimpse.Further (deep - 1) unmarked
glimpse_beneath s deep unmarked (many n a o) = Glimpse.Further (deep + 1) unmarked
glimpse_beneath s deep unmarked (mark sl k) = Glimpse.Further (deep + 1) unmarked
glimpse_beneath s deep unmarked (back c) =
    cond (unmarked && (eqb deep 1 && begins c s)) Glimpse.Not (Glimpse.Further (deep - 1) unmarked)
glimpse_beneath s deep unmarked ends = Glimpse.Further (deep - 1) unmarked
glimpse_beneath s deep unmarked (bar b) = Glimpse.Further deep unmarked

unfoldable pub glimpse_at : Place → List ℕ → List ℕ → ℕ → List Row → ℕ → Bool → Row → Glimpse
glimpse_at here seen s row rows deep unmarked r =
    cond (eqb deep 0) (glimpse here seen s row rows unmarked r) (glimpse_beneath s deep unmarked r)
