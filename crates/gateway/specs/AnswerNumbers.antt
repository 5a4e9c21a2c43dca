-- Request A3, "Order": what numbers an answer of the MT509's entries can have. A read, a plain form and a batch's message have at most 22,
-- which is an eleventh REAS; so each of them is one byte of the gateway's.
use Rattle.std.specs.Prelude.{ℕ, ◌≤◌, List}
use Rattle.format.specs.Asking.{ask_verdict}
use Rattle.answer_values.specs.Mt509.{mt509}
use Rattle.format.specs.Reading.{read_of}
use Rattle.batch.specs.Batch.{next_of}

pub record AnswerNumbers : Type 0 where
  pub read : (m : List ℕ) → (read_of mt509 m).number ≤ 22
  pub plain : (m : List ℕ) (room : ℕ) → (ask_verdict mt509 m room).number ≤ 22
  pub next : (batch : List ℕ) (position : ℕ) → (next_of mt509 batch position).reading.number ≤ 22
