-- Document 01, "Batch": a position within the batch has a piece, and the next position is just after it; at the end it is done, and
-- after that and past the end the position stays as given. And what calling again and again finds, whichever message type is read:
-- the cutting of demand 3.
use Rattle.std.specs.Prelude.{ℕ, ◌+◌, ◌≡◌, cond, List, [], ◌∷◌, map, ltb, eqb, length, drop}
use Rattle.pieces.specs.Pieces.{piece_of, pieces}
use Rattle.pieces.specs.declared.Turn.{Turn}
use Rattle.pieces.specs.declared.Turn.TheVariants.{Message, Done, Past}

-- ---- one answer

-- within the batch there is a piece; at its end it is done; past the end there is nothing
unfoldable pub turn_of : List ℕ → ℕ → Turn
turn_of batch position = cond (ltb position (length batch)) Message (cond (eqb position (length batch)) Done Past)

-- the next position, of the piece at the position
unfoldable pub behind_of : Turn → ℕ → List ℕ → ℕ
behind_of Message position piece = position + length piece
behind_of Done position piece = position
behind_of Past position piece = position

-- a function of a position in a batch, by the three parts of its answer, that takes the pieces one by one: it says what stands there
-- and where to go on, and where a message stands how its piece is read
pub record Takes {A : Type 0} (read : List ℕ → A) (batch : List ℕ) (turn : ℕ → Turn) (reading : ℕ → A) (next : ℕ → ℕ) : Type 0 where
  pub turns : (position : ℕ) → turn position ≡ turn_of batch position
  pub reads : (position : ℕ) → turn position ≡ Message → reading position ≡ read (piece_of (drop position batch))
  pub goes_on : (position : ℕ) → next position ≡ behind_of (turn position) position (piece_of (drop position batch))

-- ---- one answer after the other

-- called from a position on, each time from the position that was answered last, it gives these readings and then says "done"
unfoldable pub Gives : {A : Type 0} → (ℕ → Turn) → (ℕ → A) → (ℕ → ℕ) → ℕ → List A → Type 0
Gives turn reading next position [] = turn position ≡ Done
Gives turn reading next position (r ∷ rs) = (turn position ≡ Message) × (reading position ≡ r) × Gives turn reading next (next position) rs

-- of every batch it gives the reading of each piece, and then it is done
abbrev pub ReadsPieces : Type 1
ReadsPieces =
    (A : Type 0) (read : List ℕ → A) (batch : List ℕ) (turn : ℕ → Turn) (reading : ℕ → A) (next : ℕ → ℕ)
    → Takes read batch turn reading next → Gives turn reading next 0 (map read (pieces batch))

-- and nothing else: there is one such list at most, whatever is called
abbrev pub NoOther : Type 1
NoOther =
    (A : Type 0) (turn : ℕ → Turn) (reading : ℕ → A) (next : ℕ → ℕ) (position : ℕ) (rs qs : List A)
    → Gives turn reading next position rs → Gives turn reading next position qs → rs ≡ qs
