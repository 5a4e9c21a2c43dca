-- What stands in a message between the places of a field, of pool messages: the field, and the password and the sender. It is what format's
-- specs/Outline says of any message type. Proved in proofs/Standing.
use Rattle.std.specs.Prelude.{ℕ}
use Rattle.format.specs.Outline as AnyType
use Rattle.pool_values.specs.Pool.{pool}

-- the sender's line of the header, counted from 0
abbrev pub sender_line : ℕ
sender_line = 1

abbrev pub Standing : Type 0
Standing = AnyType.Standing pool sender_line
