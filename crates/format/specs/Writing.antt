-- Document 01, "Order in writing", of any message type: 18, then the rules of the record, then 19. A refused write answers length 0
-- and changes no byte; an accepted one answers the length, and bytes after it keep their values.
use Rattle.std.specs.Prelude.{ℕ, Bool, ◌&&◌, not, cond, List, [], ◌++◌, map, ltb, eqb, length}
use Rattle.text.specs.Copy.{over}
use Rattle.lines.specs.Verdicts.{then, when}
use Rattle.lines.specs.Lines.{joined}
use Rattle.sheets.specs.Sheets.{lines_in}
use Rattle.sheets.specs.Filled.{filled}
use Rattle.format.specs.Format.{Format, optional}

module _ (F : Format) where
  -- ---- the message of a record

  -- all that stands behind the text of a slot, its fixed text and its value; nothing where an optional one is absent
  unfoldable pub behind_in : (ℕ → List ℕ) → ℕ → List ℕ
  behind_in value s = cond (optional F s && eqb (length (value s)) 0) [] ((F.slot_of s).fixed ++ value s)

  unfoldable pub head_line : (ℕ → List ℕ) → ℕ → List ℕ
  head_line value s = (F.slot_of s).fixed ++ value s

  -- the header's lines, and the layout filled in with the values
  unfoldable pub lines_for : F.Held → List (List ℕ)
  lines_for r = map (head_line (F.value_of r)) F.header ++ lines_in (filled (behind_in (F.value_of r)) F.tree)

  unfoldable pub message_of : F.Held → List ℕ
  message_of r = joined (lines_for r)

  -- ---- writing it

  -- 18, and then the rules: the numbers that a record shows by itself
  unfoldable pub judge_of : F.Held → ℕ
  judge_of r = (then (when (not (F.in_form r)) 18) (F.write_rules r)).number

  -- the number of a write into a buffer of so many bytes
  unfoldable pub write_number : F.Held → ℕ → ℕ
  write_number r room = cond (eqb (judge_of r) 0) (cond (ltb room (length (message_of r))) 19 0) (judge_of r)

  -- the length that it answers
  unfoldable pub write_length : F.Held → ℕ → ℕ
  write_length r room = cond (eqb (write_number r room) 0) (length (message_of r)) 0

  -- and what the buffer holds afterwards
  unfoldable pub written_over : F.Held → List ℕ → List ℕ
  written_over r buf = cond (eqb (write_number r (length buf)) 0) (over buf 0 (message_of r)) buf

  -- a record is writable when a buffer of the longest message's length takes it without refusal
  unfoldable pub writable : F.Held → Bool
  writable r = eqb (write_number r F.longest) 0
