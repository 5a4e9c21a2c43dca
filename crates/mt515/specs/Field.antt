-- Document 01, "One field", of the MT515: for a slot named by the caller the answer is that stretch of the caller's own message, the value
-- after the fixed text (for 70E, what follows `GSCC/`). A refused message, a number that names no slot, or a slot it does not have gives
-- the empty stretch at the message's start. Slots are numbered as in table's `specs/Table`: 21 have a value. It is what format's
-- specs/Field says of any message type.
use Rattle.std.specs.Prelude.{ℕ, List}
use Rattle.format.specs.Field as AnyType
use Rattle.values.specs.Mt515.{mt515}
use Rattle.field.specs.Field as Place
use Rattle.field.specs.declared.Stretch.{Stretch}

-- the bytes in front of the value: the fixed text, and behind 70E's the one that ends `GSCC/`
abbrev pub front_of : ℕ → ℕ
front_of slot = AnyType.front_of mt515 slot

abbrev pub field_of : List ℕ → ℕ → List ℕ
field_of m slot = AnyType.field_of mt515 m slot

-- the read's number, and where the field stands
abbrev pub place_of : List ℕ → ℕ → Stretch
place_of m slot = Place.place_of mt515 m slot
