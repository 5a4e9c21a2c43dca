-- Document 01, "Batch", of messages of any type: from a position, a piece is read as if alone, and the next position is just after it, also
-- after a refusal. At the end the answer is "done"; after "done" and after 21 the position stays as given, beside the blank record. And
-- what calling again and again finds: the cutting of demand 3.
use Rattle.std.specs.Prelude.{ℕ, ◌≡◌, List, map, drop}
use Rattle.pieces.specs.declared.Turn.{Turn}
use Rattle.pieces.specs.declared.Turn.TheVariants.{Message, Done, Past}
use Rattle.pieces.specs.Pieces.{piece_of, pieces}
use Rattle.pieces.specs.Calls.{turn_of, behind_of, Gives}
use Rattle.format.specs.Format.{Format}
use Rattle.format.specs.Reading.{read_of}
use Rattle.format.specs.declared.Reading.{Reading}
use Rattle.format.specs.Demands.{accepts, AllWritable, written}
use Rattle.batch.specs.declared.Found.{Found}

module _ (F : Format) where
  -- ---- one answer

  -- a number with line 0, beside the blank record
  unfoldable pub blank_reading : ℕ → Reading F.Held
  blank_reading number = record { number = number; line = 0; held = F.blank }

  -- number, line and record in each case, of the piece at the position
  unfoldable pub says_of : Turn → List ℕ → Reading F.Held
  says_of Message piece = read_of F piece
  says_of Done piece = blank_reading 0
  says_of Past piece = blank_reading 21

  unfoldable pub next_of : List ℕ → ℕ → Found F.Held
  next_of batch position =
      let turn = turn_of batch position in
      let piece = piece_of (drop position batch) in
      record { turn = turn; reading = says_of turn piece; position = behind_of turn position piece }

  -- ---- one answer after the other

  -- called from a position on, each time from the position that was answered last, it gives these readings and then says "done"
  abbrev pub NextGives : List ℕ → ℕ → List (Reading F.Held) → Type 0
  NextGives batch = Gives (λ at. (next_of batch at).turn) (λ at. (next_of batch at).reading) (λ at. (next_of batch at).position)

  pub record Cutting : Type 0 where
    -- of every batch it gives the reading of each piece, and then it is done
    pub reads-pieces : (batch : List ℕ) → NextGives batch 0 (map (read_of F) (pieces batch))
    -- of records that were written one behind the other it gives just these records
    pub reads-written : (rs : List F.Held) → AllWritable F rs → NextGives (written F rs) 0 (map (accepts F) rs)
    -- and nothing else: there is one such list at most
    pub no_other : (batch : List ℕ) (position : ℕ) (rs qs : List (Reading F.Held)) → NextGives batch position rs → NextGives batch position qs → rs ≡ qs
