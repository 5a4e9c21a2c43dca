-- Document 01, "One field", whichever the message type: the first line behind the header that the table takes for a slot, and the
-- stretch of the message that its value is. A search ends at a line that the table refuses, so it is defined for any message.
use Rattle.std.specs.Prelude.{ℕ, suc, ◌-◌, cond, List, [], ◌∷◌, eqb, length, drop, replicate}
use Rattle.lines.specs.Lines.{lines_of, end_of}
use Rattle.stretches.specs.Stretches.{slot_count}
use Rattle.layout.specs.Rows.{Row}
use Rattle.layout.specs.Layout.{Taken, step_of, marked}
use Rattle.layout.specs.declared.Place.{Place}
use Rattle.layout.specs.declared.Step.{Step}
use Rattle.search.specs.declared.Span.{Span}

-- ---- the line of a slot

-- no line: lines are counted from 1
unfoldable pub no_line : Taken
no_line = record { slot = 0; line = 0; value = [] }

-- the first of the lines that was taken for a slot
unfoldable pub taken_for : ℕ → List Taken → Taken
taken_for slot [] = no_line
taken_for slot (t ∷ ts) = cond (eqb t.slot slot) t (taken_for slot ts)

-- ---- the same while the lines are held against the table

-- what a line says, the n-th, in front of what is found behind it: one that is refused ends the search with no line, and one
-- without a slot is passed by
unfoldable pub found_at : ℕ → ℕ → List ℕ → Step → Taken → Taken
found_at wanted n l step rest =
    let this : Taken = record { slot = step.slot; line = n; value = drop step.width l } in
    cond (eqb step.number 0) (cond (eqb step.slot 0) rest (cond (eqb step.slot wanted) this rest)) no_line

-- from a place of the table, with the slots that were seen, lines counted from n
unfoldable pub found_in : List Row → Place → List ℕ → ℕ → ℕ → List (List ℕ) → Taken
found_in rows here seen wanted n [] = no_line
found_in rows here seen wanted n (l ∷ ls) =
    let step = step_of rows here seen l in
    let rest = found_in rows step.place (marked seen step) wanted (suc n) ls in
    found_at wanted n l step rest

-- of a message: the lines behind the header are those from the fifth on
unfoldable pub found_of : List Row → List ℕ → ℕ → Taken
found_of rows m wanted = found_in rows (record { row = 0; back = 0 }) (replicate {A = ℕ} slot_count 0) wanted 5 (drop 4 (lines_of m))

-- ---- where its value stands

-- a value is the end of its line; `front` of its bytes are left out
unfoldable pub span_from : List ℕ → ℕ → Taken → Span
span_from m front t =
    let count = length (drop front t.value) in
    record { offset = end_of m t.line - count; count = count }

unfoldable pub span_of : List Row → List ℕ → ℕ → ℕ → Span
span_of rows m wanted front = span_from m front (found_of rows m wanted)
