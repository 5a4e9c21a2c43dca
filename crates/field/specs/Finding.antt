-- What a place and a field of a message of any type are to each other, to the message and to its record: what format's specs/Field says.
-- Proved in proofs/Finding.
use Rattle.std.specs.Prelude.{ℕ, ◌+◌, ◌≤◌, ◌≡◌, true, false, List, [], ◌↔◌, length, take, drop}
use Rattle.text.specs.Classes.{is_between}
use Rattle.sheets.specs.Sheets.{come, has}
use Rattle.format.specs.Format.{Format}
use Rattle.format.specs.Reading.{read_of}
use Rattle.format.specs.Lawful.{Lawful}
use Rattle.format.specs.Demands.{Accepted}
use Rattle.format.specs.Field as AnyType
use Rattle.format.specs.Field.{field_of}
use Rattle.field.specs.Field.{place_of}
use Rattle.field.specs.declared.Stretch.{Stretch}

-- the empty stretch at the message's start
abbrev pub nowhere : ℕ → Stretch
nowhere number = record { number = number; offset = 0; count = 0 }

pub record Finding (F : Format) : Type 0 where
  -- a stretch lies within its message, and what stands there is the field
  pub is-part : (m : List ℕ) (slot : ℕ)
      → ((place_of F m slot).offset + (place_of F m slot).count ≤ length m)
      × (take (place_of F m slot).count (drop (place_of F m slot).offset m) ≡ field_of F m slot)
  -- the fields of an accepted message are what its record was read from, and there is none of a refused one, for a number that names no
  -- slot, and of a slot that the message does not have
  pub any : AnyType.Finding F
  -- nothing of a refused message, and nothing for a number that names no slot
  pub none-refused : (m : List ℕ) (slot : ℕ) → (Accepted F m → ⊥) → (place_of F m slot ≡ nowhere (read_of F m).number) × (field_of F m slot ≡ [])
  pub none-unnamed : (m : List ℕ) (slot : ℕ) → is_between 1 F.fields slot ≡ false
      → (place_of F m slot ≡ nowhere (read_of F m).number) × (field_of F m slot ≡ [])
  -- of an accepted message, nothing for the slots that it does not have, and for no other: a value that is there is never empty
  pub none-absent : (m : List ℕ) (w : Lawful F m) (slot : ℕ) → is_between 1 F.fields slot ≡ true
      → (place_of F m slot ≡ nowhere 0) ↔ (has (come [] w.sheet) slot ≡ false)
