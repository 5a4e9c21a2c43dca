-- Document 01, "One field", of any message type: for a slot named by the caller the answer is that stretch of the caller's own message,
-- the value after the fixed text. A refused message, a number that names no slot, or a slot it does not have gives the empty stretch
-- at the message's start. And what a stretch and a field are to each other, to the message and to its record.
use Rattle.std.specs.Prelude.{ℕ, ◌+◌, ◌≤◌, ◌≡◌, Bool, true, false, ◌&&◌, cond, List, [], ◌↔◌, eqb, length, take, drop}
use Rattle.text.specs.Classes.{is_between}
use Rattle.layout.specs.Layout.{Taken}
use Rattle.sheets.specs.Sheets.{come, has}
use Rattle.search.specs.Search.{no_line, taken_for, span_from}
use Rattle.search.specs.declared.Span.{Span}
use Rattle.walk.specs.Walk.{taken_in}
use Rattle.format.specs.Format.{Format}
use Rattle.format.specs.Reading.{body_of, read_of}
use Rattle.format.specs.Lawful.{said_in, Lawful}
use Rattle.format.specs.Demands.{Accepted}

-- the empty stretch at the message's start
abbrev pub nowhere : Span
nowhere = record { offset = 0; count = 0 }

module _ (F : Format) where
  -- a message is asked for a slot that may have a value, and is accepted
  unfoldable pub asked : List ℕ → ℕ → Bool
  asked m slot = eqb (read_of F m).number 0 && is_between 1 F.fields slot

  -- the first line that was taken for it
  unfoldable pub line_for : List ℕ → ℕ → Taken
  line_for m slot = cond (asked m slot) (taken_for slot (taken_in (body_of F m))) no_line

  -- the bytes in front of the field: the fixed text, and what of the value is not the field's
  unfoldable pub front_of : ℕ → ℕ
  front_of slot = length (F.slot_of slot).fixed + F.beyond slot

  unfoldable pub field_of : List ℕ → ℕ → List ℕ
  field_of m slot = drop (front_of slot) (line_for m slot).value

  -- where it stands: it is the end of its line
  unfoldable pub span_in : List ℕ → ℕ → Span
  span_in m slot = span_from m (front_of slot) (line_for m slot)

  pub record Finding : Type 0 where
    -- a stretch lies within its message, and what stands there is the field
    pub is-part : (m : List ℕ) (slot : ℕ)
        → ((span_in m slot).offset + (span_in m slot).count ≤ length m)
        × (take (span_in m slot).count (drop (span_in m slot).offset m) ≡ field_of m slot)
    -- the fields of an accepted message are what its record was read from
    pub is_read : (m : List ℕ) (w : Lawful F m) (slot : ℕ) → is_between 1 F.fields slot ≡ true
        → field_of m slot ≡ drop (F.beyond slot) (said_in F m w.sheet slot)
    -- nothing of a refused message, and nothing for a number that names no slot
    pub none-refused : (m : List ℕ) (slot : ℕ) → (Accepted F m → ⊥) → (span_in m slot ≡ nowhere) × (field_of m slot ≡ [])
    pub none-unnamed : (m : List ℕ) (slot : ℕ) → is_between 1 F.fields slot ≡ false → (span_in m slot ≡ nowhere) × (field_of m slot ≡ [])
    -- of an accepted message, nothing for the slots that it does not have, and for no other: a field that is there is never empty
    pub none-absent : (m : List ℕ) (w : Lawful F m) (slot : ℕ) → is_between 1 F.fields slot ≡ true
        → (span_in m slot ≡ nowhere) ↔ (has (come [] w.sheet) slot ≡ false)
