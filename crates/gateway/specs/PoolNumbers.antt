-- Request A1, "Order of refusals": what numbers an answer of the pool entries can have. A read has one of 0 to 17, a plain form 19 besides,
-- and a batch's message at most 21; so each of them is one byte of the gateway's.
use Rattle.std.specs.Prelude.{ℕ, ◌≤◌, List}
use Rattle.format.specs.Asking.{ask_verdict}
use Rattle.pool_values.specs.Pool.{pool}
use Rattle.format.specs.Reading.{read_of}
use Rattle.batch.specs.Batch.{next_of}

pub record PoolNumbers : Type 0 where
  pub read : (m : List ℕ) → (read_of pool m).number ≤ 17
  pub plain : (m : List ℕ) (room : ℕ) → (ask_verdict pool m room).number ≤ 19
  pub next : (batch : List ℕ) (position : ℕ) → (next_of pool batch position).reading.number ≤ 21
