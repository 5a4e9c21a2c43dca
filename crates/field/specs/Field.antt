-- Document 01, "One field", of a message of any type: for a slot named by the caller the answer is that stretch of the caller's own message,
-- the value after the fixed text. A refused message, a number that names no slot, or a slot it does not have gives the empty stretch at
-- the message's start. It is what format's specs/Field says.
use Rattle.std.specs.Prelude.{ℕ, List}
use Rattle.format.specs.Format.{Format}
use Rattle.format.specs.Reading.{read_of}
use Rattle.format.specs.Field.{span_in}
use Rattle.field.specs.declared.Stretch.{Stretch}

-- the read's number, and where the field stands
unfoldable pub place_of : Format → List ℕ → ℕ → Stretch
place_of F m slot =
    let span = span_in F m slot in
    record { number = (read_of F m).number; offset = span.offset; count = span.count }
