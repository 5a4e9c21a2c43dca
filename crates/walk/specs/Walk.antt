-- Document 01, the lines behind the header against the table of a message type, whichever it is: 8 and 9 in one pass, then 10,
-- 11 and 12 in one pass over the lines that were taken. And the values of these lines: what each is, and where it stands.
use Rattle.std.specs.Prelude.{ℕ, ◌+◌, ◌-◌, cond, List, [], ◌∷◌, eqb, length, drop, set}
use Rattle.lines.specs.Verdicts.{refused, pass, then}
use Rattle.lines.specs.Lines.{lines_of, end_of}
use Rattle.lines.specs.declared.Verdict.{Verdict}
use Rattle.forms.specs.Forms.{Slot, value_number}
use Rattle.layout.specs.Rows.{Row}
use Rattle.layout.specs.Layout.{Taken, Run, refused_at, taken, layout_of}
use Rattle.walk.specs.declared.Body.{Body}

-- ---- 10, 11 and 12: the values, each by its slot

unfoldable pub value_verdict : (ℕ → Slot) → Taken → Verdict
value_verdict slot_of t =
    let number = value_number (slot_of t.slot) t.value in
    cond (eqb number 0) pass (refused number t.line)

-- the first line whose value is wrong
unfoldable pub values_pass : (ℕ → Slot) → List Taken → Verdict
values_pass slot_of [] = pass
values_pass slot_of (t ∷ ts) = then (value_verdict slot_of t) (values_pass slot_of ts)

-- ---- 8 and 9 come first

-- the first line that is refused; or, where all were taken, the first whose value is wrong
unfoldable pub body_pass : (ℕ → Slot) → Run → Verdict
body_pass slot_of (refused_at number line) = refused number line
body_pass slot_of (taken ts) = values_pass slot_of ts

unfoldable pub taken_in : Run → List Taken
taken_in (refused_at number line) = []
taken_in (taken ts) = ts

-- ---- the value of a slot

-- what follows the fixed text on the last line that was taken for it; v where none was
unfoldable pub value_from : (ℕ → Slot) → List ℕ → ℕ → List Taken → List ℕ
value_from slot_of v slot [] = v
value_from slot_of v slot (t ∷ ts) = value_from slot_of (cond (eqb t.slot slot) (drop (length (slot_of slot).fixed) t.value) v) slot ts

-- it ends where its line's text ends, and begins behind the fixed text; where no line was taken for the slot the places stay
unfoldable pub ends_of : List ℕ → List ℕ → List Taken → List ℕ
ends_of m ends [] = ends
ends_of m ends (t ∷ ts) = ends_of m (set ends t.slot (end_of m t.line)) ts

unfoldable pub starts_of : (ℕ → Slot) → List ℕ → List ℕ → List Taken → List ℕ
starts_of slot_of m starts [] = starts
starts_of slot_of m starts (t ∷ ts) =
    starts_of slot_of m (set starts t.slot (end_of m t.line - length t.value + length (slot_of t.slot).fixed)) ts

-- ---- all of it, of a message and the places that are kept already

-- the lines behind the header are those from the fifth on
unfoldable pub walk_of : List Row → (ℕ → Slot) → List ℕ → List ℕ → List ℕ → Body
walk_of table slot_of m starts ends =
    let run = layout_of table 5 (drop 4 (lines_of m)) in
    record {
      verdict = body_pass slot_of run;
      starts = starts_of slot_of m starts (taken_in run);
      ends = ends_of m ends (taken_in run);
    }
