-- What a place and a field of an MT509 are to each other, to the message and to its record: what format's specs/Field says of any message
-- type. Proved in proofs/Finding.
use Rattle.std.specs.Prelude.{ℕ, ◌+◌, ◌≤◌, ◌≡◌, List, length, take, drop}
use Rattle.format.specs.Field as AnyType
use Rattle.answer_values.specs.Mt509.{mt509}
use Rattle.field.specs.Field.{place_of}

pub record Finding : Type 0 where
  -- a stretch lies within its message, and what stands there is the field
  pub is-part : (m : List ℕ) (slot : ℕ)
      → ((place_of mt509 m slot).offset + (place_of mt509 m slot).count ≤ length m)
      × (take (place_of mt509 m slot).count (drop (place_of mt509 m slot).offset m) ≡ AnyType.field_of mt509 m slot)
  -- the fields of an accepted message are what its record was read from, and there is none of a refused one, for a number that names no
  -- slot, and of a slot that the message does not have
  pub any : AnyType.Finding mt509
