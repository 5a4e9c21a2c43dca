-- Document 01, "Order in reading", up to the values, of any message type: 1; 2; 3; 4; then 5, 6, 7 in one pass; then 8, 9 in one
-- pass; then 10, 11, 12 in one pass. Beside a verdict stand the places of the values.
use Rattle.std.specs.Prelude.{ℕ, cond, List, eqb, replicate}
use Rattle.lines.specs.Verdicts.{then}
use Rattle.lines.specs.Lines.{lines_pass}
use Rattle.lines.specs.declared.Verdict.{Verdict}
use Rattle.blocks.specs.Blocks.{nest_pass}
use Rattle.stretches.specs.Stretches.{slot_count}
use Rattle.forms.specs.Forms.{Slot}
use Rattle.layout.specs.Rows.{Row}
use Rattle.walk.specs.Walk.{walk_of}
use Rattle.walk.specs.declared.Body.{Body}
use Rattle.reader.specs.Header.{head_pass, head_starts, head_ends}

-- a refusal keeps no places
unfoldable pub placeless : Verdict → Body
placeless v = record { verdict = v; starts = replicate {A = ℕ} slot_count 0; ends = replicate {A = ℕ} slot_count 0 }

-- where 1 to 7 find nothing wrong it is what the walk over the lines behind the header comes to, which keeps the header's places
unfoldable pub take_of : List Row → (ℕ → Slot) → List ℕ → List ℕ → Body
take_of table slot_of header m =
    let v = then (lines_pass m) (then (head_pass slot_of header m) (nest_pass m)) in
    cond (eqb v.number 0) (walk_of table slot_of m (head_starts slot_of header m) (head_ends header m)) (placeless v)
