-- What writing a message of any type answers: what format's specs/Writing says of it. A refused write answers length 0 and changes no
-- byte; an accepted one answers the length, and bytes after it keep their values.
use Rattle.std.specs.Prelude.{ℕ}
use Rattle.format.specs.Format.{Format}
use Rattle.format.specs.Writing.{write_number, write_length}
use Rattle.writing.specs.declared.Writing.{Writing}

module _ (F : Format) where
  -- the answer, of a record and the bytes that the buffer has
  unfoldable pub writing_of : F.Held → ℕ → Writing
  writing_of r room = record { number = write_number F r room; length = write_length F r room }
