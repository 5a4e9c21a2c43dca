-- Document 01, "Order in writing", of the MT515: 18, 14, 15, 16, 17, 20, 19. A refused write answers length 0 and changes no byte; an
-- accepted one answers the length, and bytes after it keep their values. It is what format's specs/Writing says of any message type.
use Rattle.std.specs.Prelude.{ℕ, Bool, List}
use Rattle.format.specs.Writing as AnyType
use Rattle.trade.specs.declared.Trade.{Trade}
use Rattle.values.specs.Mt515.{mt515}

-- the number of a write into a buffer of so many bytes, and the length that it answers
abbrev pub write_number : Trade → ℕ → ℕ
write_number t room = AnyType.write_number mt515 t room

abbrev pub write_length : Trade → ℕ → ℕ
write_length t room = AnyType.write_length mt515 t room

-- and what the buffer holds afterwards
abbrev pub written_over : Trade → List ℕ → List ℕ
written_over t buf = AnyType.written_over mt515 t buf

-- a record is writable when a buffer of 822 bytes takes it without refusal
abbrev pub writable : Trade → Bool
writable t = AnyType.writable mt515 t
