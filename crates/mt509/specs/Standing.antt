-- What stands in a message between the places of a field, of MT509: the field, and the password and the receiver. It is what format's
-- specs/Outline says of any message type. Proved in proofs/Standing.
use Rattle.std.specs.Prelude.{ℕ}
use Rattle.format.specs.Outline as AnyType
use Rattle.answer_values.specs.Mt509.{mt509}

-- the receiver's line of the header, counted from 0
abbrev pub receiver_line : ℕ
receiver_line = 3

abbrev pub Standing : Type 0
Standing = AnyType.Standing mt509 receiver_line
