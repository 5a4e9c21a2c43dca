-- A glance at a text: how many of its first bytes are a message in which 1 to 12 find nothing wrong, and where the values stand in it. What
-- is said goes one way: where a number is told, it is so; where none is, nothing is said, and the passes have to be run.
use Rattle.std.specs.Prelude.{ℕ, ◌≤◌, ◌≡◌, true, List, [], ◌∷◌, ◌++◌, length, take, drop, Option, Some, None}
use Rattle.text.specs.Bytes.{bytes}
use Rattle.lines.specs.Verdicts.{pass}
use Rattle.lines.specs.Lines.{lines_of, ended}
use Rattle.forms.specs.Forms.{Slot}
use Rattle.layout.specs.Rows.{Row}
use Rattle.walk.specs.Walk.{walk_of}
use Rattle.reader.specs.Header.{head_pass, starts_from, ends_from}
use Rattle.measure.specs.Measure.{clean_slot}
use Rattle.fitting.specs.Fitting.{clean_rows}

-- what the tables have to be: four lines of header, and texts of 20 to 7E hex
pub record Clean (table : List Row) (slot_of : ℕ → Slot) (header : List ℕ) : Type 0 where
  pub four : length header ≡ 4
  pub rows : clean_rows table ≡ true
  pub slots : (s : ℕ) → clean_slot (slot_of s) ≡ true

-- the first n bytes of a text: not too long, ending in LF, their last line `-`; the header has nothing wrong, nor have the lines behind it,
-- and the places that are kept are these
pub record Glanced (table : List Row) (slot_of : ℕ → Slot) (header s starts₀ ends₀ starts ends : List ℕ) (n : ℕ) : Type 0 where
  pub within : n ≤ length s
  pub short : n ≤ 4096
  pub closed : ended (take n s) ≡ true
  pub early : List (List ℕ)
  pub last : drop 4 (lines_of (take n s)) ≡ early ++ bytes "-" ∷ []
  pub head : head_pass slot_of header (take n s) ≡ pass
  pub body : walk_of table slot_of (take n s) (starts_from slot_of (take n s) 0 starts₀ header) (ends_from (take n s) 0 ends₀ header)
      ≡ record { verdict = pass; starts = starts; ends = ends }

unfoldable pub Says : List Row → (ℕ → Slot) → List ℕ → List ℕ → List ℕ → List ℕ → List ℕ → List ℕ → Option ℕ → Type 0
Says table slot_of header s starts₀ ends₀ starts ends (Some n) = Clean table slot_of header → Glanced table slot_of header s starts₀ ends₀ starts ends n
Says table slot_of header s starts₀ ends₀ starts ends None = Unit
