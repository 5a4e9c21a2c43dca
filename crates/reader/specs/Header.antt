-- Document 01, the header of a message type, whichever it is (number 4): each of its lines has a slot, and is the slot's fixed text
-- and a value of the slot's form. And the values of these lines: what each is, and where it stands.
use Rattle.std.specs.Prelude.{ℕ, suc, ◌+◌, cond, List, [], ◌∷◌, eqb, length, drop, get_or, set, replicate}
use Rattle.lines.specs.Verdicts.{refused, pass}
use Rattle.lines.specs.Lines.{lines_of, start_behind, end_of}
use Rattle.lines.specs.declared.Verdict.{Verdict}
use Rattle.stretches.specs.Stretches.{slot_count}
use Rattle.forms.specs.Forms.{Slot, value_number}

-- ---- 4: the first line that is wrong; the lines are counted from n, and one that is missing is empty

unfoldable pub head_verdict : (ℕ → Slot) → ℕ → List ℕ → List (List ℕ) → Verdict
head_verdict slot_of n [] ls = pass
head_verdict slot_of n (h ∷ hs) ls =
    let rest = head_verdict slot_of (suc n) hs (drop 1 ls) in
    cond (eqb (value_number (slot_of h) (get_or ls 0 [])) 0) rest (refused 4 n)

unfoldable pub head_pass : (ℕ → Slot) → List ℕ → List ℕ → Verdict
head_pass slot_of header m = head_verdict slot_of 1 header (lines_of m)

-- ---- the value of a slot

-- what follows the fixed text on the last of the header's lines that is its own; v where none is
unfoldable pub head_value : (ℕ → Slot) → List ℕ → List ℕ → List (List ℕ) → ℕ → List ℕ
head_value slot_of v [] ls slot = v
head_value slot_of v (h ∷ hs) ls slot = head_value slot_of (cond (eqb h slot) (drop (length (slot_of h).fixed) (get_or ls 0 [])) v) hs (drop 1 ls) slot

-- it begins behind the fixed text, and ends where its line's text ends; k lines stand in front
unfoldable pub starts_from : (ℕ → Slot) → List ℕ → ℕ → List ℕ → List ℕ → List ℕ
starts_from slot_of m k starts [] = starts
starts_from slot_of m k starts (h ∷ hs) = starts_from slot_of m (suc k) (set starts h (start_behind m k + length (slot_of h).fixed)) hs

unfoldable pub ends_from : List ℕ → ℕ → List ℕ → List ℕ → List ℕ
ends_from m k ends [] = ends
ends_from m k ends (h ∷ hs) = ends_from m (suc k) (set ends h (end_of m (suc k))) hs

-- the places of a slot that no line has are 0
unfoldable pub head_starts : (ℕ → Slot) → List ℕ → List ℕ → List ℕ
head_starts slot_of header m = starts_from slot_of m 0 (replicate {A = ℕ} slot_count 0) header

unfoldable pub head_ends : List ℕ → List ℕ → List ℕ
head_ends header m = ends_from m 0 (replicate {A = ℕ} slot_count 0) header
