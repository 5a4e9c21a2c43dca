-- What asking for a plain form of any message type answers: what format's specs/Asking says of it. It gives the read's number and line, or
-- 19 after all of those, and treats its buffer as a write does.
use Rattle.std.specs.Prelude.{ℕ, List}
use Rattle.format.specs.Format.{Format}
use Rattle.format.specs.Asking.{ask_verdict, ask_length}
use Rattle.plain.specs.declared.Asking.{Asking}

module _ (F : Format) where
  -- the answer, of a message and the bytes that the buffer has
  unfoldable pub asking_of : List ℕ → ℕ → Asking
  asking_of m room = record { number = (ask_verdict F m room).number; line = (ask_verdict F m room).line; length = ask_length F m room }
