-- What a place and a field of a pool message are to each other, to the message and to its record: what format's specs/Field says of any
-- message type, and that of 70E a `/` stands in front of the field. Proved in proofs/Finding.
use Rattle.std.specs.Prelude.{ℕ, ◌+◌, ◌≤◌, ◌≡◌, List, ◌++◌, length, take, drop}
use Rattle.text.specs.Bytes.{bytes}
use Rattle.format.specs.Lawful.{said_in, Lawful}
use Rattle.format.specs.Field as AnyType
use Rattle.pool_trade.specs.Records.{narrative_slot}
use Rattle.pool_values.specs.Pool.{pool}
use Rattle.field.specs.Field.{place_of}

pub record Finding : Type 0 where
  -- a stretch lies within its message, and what stands there is the field
  pub is-part : (m : List ℕ) (slot : ℕ)
      → ((place_of pool m slot).offset + (place_of pool m slot).count ≤ length m)
      × (take (place_of pool m slot).count (drop (place_of pool m slot).offset m) ≡ AnyType.field_of pool m slot)
  -- the fields of an accepted message are what its record was read from, and there is none of a refused one, for a number that names no
  -- slot, and of a slot that the message does not have
  pub any : AnyType.Finding pool
  -- behind `DTCY` the last has a `/` in front of it
  pub is-told-behind : (m : List ℕ) (w : Lawful pool m) → said_in pool m w.sheet narrative_slot ≡ bytes "/" ++ AnyType.field_of pool m narrative_slot
