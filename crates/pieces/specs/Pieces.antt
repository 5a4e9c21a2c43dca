-- Document 01, "Batch": from a position, a piece runs through the first line that is `-`, or to the end where there is none, and
-- the next position is just after it. Here with the rest of the batch from that position in the place of the position.
use Rattle.std.specs.Prelude.{ℕ, zero, suc, ◌≡◌, Bool, cond, List, [], ◌∷◌, ◌++◌, map, length, drop}
use Rattle.text.specs.Bytes.{bytes, same}
use Rattle.lines.specs.Lines.{cut_behind, without_ending}

-- ---- the piece at the front of a batch

-- a line, with its ending
unfoldable pub is_dash : List ℕ → Bool
is_dash l = same (bytes "-") (without_ending l)

-- through the first line that is `-`, or to the end where there is none
unfoldable pub through_dash : List (List ℕ) → List ℕ
through_dash [] = []
through_dash (l ∷ ls) = let rest = through_dash ls in l ++ cond (is_dash l) [] rest

unfoldable pub piece_of : List ℕ → List ℕ
piece_of m = through_dash (cut_behind m)

-- ---- all pieces of a batch

-- so many at most: a piece, and those just after it; an empty batch has none
unfoldable pub pieces_in : ℕ → List ℕ → List (List ℕ)
pieces_in zero m = []
pieces_in (suc most) [] = []
pieces_in (suc most) (b ∷ m) = piece_of (b ∷ m) ∷ pieces_in most (drop (length (piece_of (b ∷ m))) (b ∷ m))

-- a piece has at least one byte, so there are no more pieces than bytes
unfoldable pub pieces : List ℕ → List (List ℕ)
pieces m = pieces_in (length m) m

-- ---- batches at their edges: the `-` line with each ending and with none, twice, and lines that are nearly so

unfoldable pub cases : List (List ℕ × List (List ℕ))
cases =
    (bytes "", [])
    ∷ (bytes "A", bytes "A" ∷ [])
    ∷ (bytes "A\n-", bytes "A\n-" ∷ [])
    ∷ (bytes "A\n-\nB", bytes "A\n-\n" ∷ bytes "B" ∷ [])
    ∷ (bytes "A\r\n-\r\n-\n", bytes "A\r\n-\r\n" ∷ bytes "-\n" ∷ [])
    ∷ (bytes "-\n\n", bytes "-\n" ∷ bytes "\n" ∷ [])
    ∷ (bytes "-\r\r\n-A\n -\n-\n", bytes "-\r\r\n-A\n -\n-\n" ∷ [])
    ∷ []

-- each batch has the pieces that stand beside it
abbrev pub Answered : Type 0
Answered = map (λ row. pieces row.0) cases ≡ map (λ row. row.1) cases
