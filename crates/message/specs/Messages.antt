-- The message of a record, of the MT515: what format's specs/Writing says of any message type.
use Rattle.std.specs.Prelude.{ℕ, List}
use Rattle.format.specs.Writing as AnyType
use Rattle.trade.specs.declared.Trade.{Trade}
use Rattle.values.specs.Mt515.{mt515}

-- its lines, and all of it
abbrev pub lines_for : Trade → List (List ℕ)
lines_for t = AnyType.lines_for mt515 t

abbrev pub message_of : Trade → List ℕ
message_of t = AnyType.message_of mt515 t
