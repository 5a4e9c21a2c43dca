-- Document 01, "Numbers the desk gets back": what numbers an answer can have. A read has one of 0 to 17, a plain form 19 besides, a
-- write at most 20 and a batch's message at most 21; so each of them is one byte of the gateway's.
use Rattle.std.specs.Prelude.{ℕ, ◌≤◌, List}
use Rattle.pieces.specs.declared.Turn.{Turn}
use Rattle.pieces.specs.declared.Turn.TheVariants.{Message, Done, Past}
use Rattle.trade.specs.declared.Trade.{Trade}
use Rattle.format.specs.Reading.{read_of}
use Rattle.message.specs.Writing.{write_number}
use Rattle.format.specs.Asking.{ask_verdict}
use Rattle.values.specs.Mt515.{mt515}
use Rattle.batch.specs.Batch.{next_of}

-- what stands at a position of a batch: a message, the end, or nothing
unfoldable pub turn_number : Turn → ℕ
turn_number Message = 0
turn_number Done = 1
turn_number Past = 2

pub record Numbers : Type 0 where
  pub read : (m : List ℕ) → (read_of mt515 m).number ≤ 17
  pub plain : (m : List ℕ) (room : ℕ) → (ask_verdict mt515 m room).number ≤ 19
  pub write : (t : Trade) (room : ℕ) → write_number t room ≤ 20
  pub next : (batch : List ℕ) (position : ℕ) → (next_of mt515 batch position).reading.number ≤ 21
