-- What a place and a field of an MT515 are to each other, to the message and to its record. Each is proved in proofs/Finding.
use Rattle.std.specs.Prelude.{ℕ, ◌+◌, ◌≤◌, ◌≡◌, true, false, List, [], ◌++◌, ◌↔◌, length, take, drop}
use Rattle.text.specs.Bytes.{bytes}
use Rattle.text.specs.Classes.{is_between}
use Rattle.sheets.specs.Sheets.{come, has}
use Rattle.trade.specs.Records.{narrative_slot}
use Rattle.table.specs.Table.{last_field}
use Rattle.demands.specs.Demands.{said_in, Lawful, read_of, Accepted}
use Rattle.mt515.specs.Field.{field_of, place_of}
use Rattle.field.specs.declared.Stretch.{Stretch}

-- the empty stretch at the message's start
abbrev pub nowhere : ℕ → Stretch
nowhere number = record { number = number; offset = 0; count = 0 }

-- a stretch lies within its message, and what stands there is the field
abbrev pub IsPart : Type 0
IsPart =
    (m : List ℕ) (slot : ℕ)
    → ((place_of m slot).offset + (place_of m slot).count ≤ length m)
    × (take (place_of m slot).count (drop (place_of m slot).offset m) ≡ field_of m slot)

-- the fields of an accepted message are what its record was read from, and behind `GSCC` the last has a `/` in front of it
abbrev pub IsRead : Type 0
IsRead = (m : List ℕ) (w : Lawful m) (slot : ℕ) → is_between 1 20 slot ≡ true → field_of m slot ≡ said_in m w.sheet slot

abbrev pub IsToldBehind : Type 0
IsToldBehind = (m : List ℕ) (w : Lawful m) → said_in m w.sheet narrative_slot ≡ bytes "/" ++ field_of m narrative_slot

-- nothing of a refused message, and nothing for a number that names no slot
abbrev pub NoneRefused : Type 0
NoneRefused = (m : List ℕ) (slot : ℕ) → (Accepted m → ⊥) → (place_of m slot ≡ nowhere (read_of m).number) × (field_of m slot ≡ [])

abbrev pub NoneUnnamed : Type 0
NoneUnnamed = (m : List ℕ) (slot : ℕ) → is_between 1 last_field slot ≡ false → (place_of m slot ≡ nowhere (read_of m).number) × (field_of m slot ≡ [])

-- of an accepted message, nothing for the slots that it does not have, and for no other: a value that is there is never empty
abbrev pub NoneAbsent : Type 0
NoneAbsent =
    (m : List ℕ) (w : Lawful m) (slot : ℕ) → is_between 1 last_field slot ≡ true
    → (place_of m slot ≡ nowhere 0) ↔ (has (come [] w.sheet) slot ≡ false)

pub record Finding : Type 0 where
  pub is-part : IsPart
  pub is_read : IsRead
  pub is-told-behind : IsToldBehind
  pub none-refused : NoneRefused
  pub none-unnamed : NoneUnnamed
  pub none-absent : NoneAbsent
