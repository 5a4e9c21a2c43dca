-- Document 01, "Lines and blocks" and the numbers 1, 2 and 3, at their edges: an empty message and one of 4,097 bytes; CR in
-- and out of an ending; the `-` line missing, early, twice, or without its ending.
use Rattle.std.specs.Prelude.{ℕ, ◌≡◌, List, [], ◌∷◌, map, replicate}
use Rattle.text.specs.Bytes.{bytes}
use Rattle.lines.specs.Verdicts.{refused, pass}
use Rattle.lines.specs.Lines.{lines_pass}
use Rattle.lines.specs.declared.Verdict.{Verdict}

-- a message, and what the desk gets back
unfoldable pub cases : List (List ℕ × Verdict)
cases =
    (bytes "", refused 1 0)
    ∷ (replicate 4097 45, refused 1 0)
    ∷ (replicate 4096 45, refused 3 1)
    ∷ (bytes "-\n", pass)
    ∷ (bytes "-\r\n", pass)
    ∷ (bytes "\n\n-\n", pass)
    ∷ (bytes "A", refused 3 1)
    ∷ (bytes "A\n-", refused 3 2)
    ∷ (bytes "-\nX", refused 3 1)
    ∷ (bytes "-\n\n", refused 3 1)
    ∷ (bytes "-\n-\n", refused 3 1)
    ∷ (bytes "A\r", refused 2 1)
    ∷ (bytes "A\r\r\n-\n", refused 2 1)
    ∷ (bytes "-\r\r\n", refused 2 1)
    ∷ (bytes "A\n\tB\n-\n", refused 2 2)
    ∷ (bytes "A\n~\n-\n", pass)
    ∷ (bytes "A\n-\n\u{7f}", refused 2 3)
    ∷ []

-- each message gets what stands beside it
abbrev pub Answered : Type 0
Answered = map (λ row. lines_pass row.0) cases ≡ map (λ row. row.1) cases
