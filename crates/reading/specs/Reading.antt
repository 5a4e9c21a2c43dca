-- What reading a message of any type answers: what format's specs/Reading says of it.
use Rattle.std.specs.Prelude.{ℕ, List, length}
use Rattle.lines.specs.declared.Verdict.{Verdict}
use Rattle.pieces.specs.Pieces.{piece_of}
use Rattle.format.specs.Format.{Format}
use Rattle.format.specs.Reading.{reading, rules_of, read_of}
use Rattle.format.specs.declared.Reading.{Reading}
use Rattle.reading.specs.declared.Front.{Front}

module _ (F : Format) where
  -- a number and a line beside the blank record
  unfoldable pub refusal : Verdict → Reading F.Held
  refusal v = record { number = v.number; line = v.line; held = F.blank }

  -- the rules of line 0, of the values of a message
  unfoldable pub judged : (ℕ → List ℕ) → Reading F.Held
  judged value = reading F.blank (rules_of F value) (F.record_of value)

  -- the piece at the front of a text, read as if alone, and how many bytes it has
  unfoldable pub front_of : List ℕ → Front F.Held
  front_of s = record { reading = read_of F (piece_of s); length = length (piece_of s) }
