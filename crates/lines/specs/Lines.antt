-- Document 01, "Lines and blocks", its first part: a line ends at LF; a CR just before that LF belongs to the ending. The last
-- line of a message is `-`, and it too has its ending. And the numbers 1, 2 and 3.
use Rattle.std.specs.Prelude.{ℕ, zero, suc, ◌+◌, min, Bool, false, ◌&&◌, ◌||◌, cond, List, [], ◌∷◌, ◌++◌, map, leb, eqb, length, drop, Option, Some, None}
use Rattle.text.specs.Bytes.{bytes, begins, same, before}
use Rattle.text.specs.Classes.{is_between}
use Rattle.lines.specs.Verdicts.{refused, pass, then}
use Rattle.lines.specs.declared.Verdict.{Verdict}
use Rattle.lines.specs.declared.Line.{Line}

-- ---- the lines of a message

-- one byte in front of the first line
unfoldable pub in_front : ℕ → List (List ℕ) → List (List ℕ)
in_front b [] = (b ∷ []) ∷ []
in_front b (l ∷ ls) = (b ∷ l) ∷ ls

-- a text cut behind each LF; one that ends in LF has no further, empty line
unfoldable pub cut_behind : List ℕ → List (List ℕ)
cut_behind [] = []
cut_behind (b ∷ s) = cond (eqb b 10) ((b ∷ []) ∷ cut_behind s) (in_front b (cut_behind s))

-- a line without the CR that belongs to its ending
unfoldable pub bare : List ℕ → List ℕ
bare [] = []
bare (b ∷ []) = cond (eqb b 13) [] (b ∷ [])
bare (b ∷ c ∷ s) = b ∷ bare (c ∷ s)

-- and without its LF
unfoldable pub without_ending : List ℕ → List ℕ
without_ending l = bare (before 10 l)

unfoldable pub lines_of : List ℕ → List (List ℕ)
lines_of m = map without_ending (cut_behind m)

-- the last line has its ending
unfoldable pub ended : List ℕ → Bool
ended [] = false
ended (b ∷ []) = eqb b 10
ended (b ∷ c ∷ s) = ended (c ∷ s)

-- how many bytes of line ending a part begins with: 0 where the message ends there, none where another byte stands
abbrev pub ending_width : List ℕ → Option ℕ
ending_width s = cond (eqb (length s) 0) (Some 0) (cond (begins (bytes "\n") s) (Some 1) (cond (begins (bytes "\r\n") s) (Some 2) None))

-- ---- lines made into a message

-- every line ends in CR LF
unfoldable pub joined : List (List ℕ) → List ℕ
joined [] = []
joined (l ∷ ls) = l ++ (bytes "\r\n" ++ joined ls)

-- ---- 1: empty, or over 4,096 bytes

unfoldable pub size_pass : List ℕ → Verdict
size_pass m = cond (leb 1 (length m) && leb (length m) 4096) pass (refused 1 0)

-- ---- 2: a byte other than 20 to 7E hex and line endings, or a CR without LF

-- a byte that may stand where it stands, in front of what follows it
unfoldable pub may_stand : ℕ → List ℕ → Bool
may_stand b s = is_between 32 126 b || (eqb b 10 || (eqb b 13 && begins (bytes "\n") s))

-- the first line, counted from n, with such a byte
unfoldable pub byte_pass : ℕ → List ℕ → Verdict
byte_pass n [] = pass
byte_pass n (b ∷ s) = let rest = byte_pass (cond (eqb b 10) (suc n) n) s in cond (may_stand b s) rest (refused 2 n)

-- ---- 3: `-` before the end, or the last line not an ended `-`

-- the first line that is `-`, or else the last, has to be the ended `-` at the end; lines are counted from n
unfoldable pub end_pass : Bool → ℕ → List (List ℕ) → Verdict
end_pass e n [] = refused 3 n
end_pass e n (l ∷ []) = cond (same (bytes "-") l && e) pass (refused 3 n)
end_pass e n (l ∷ k ∷ ls) = let rest = end_pass e (suc n) (k ∷ ls) in cond (same (bytes "-") l) (refused 3 n) rest

-- ---- 1, 2 and 3, in that order

unfoldable pub lines_pass : List ℕ → Verdict
lines_pass m = then (size_pass m) (then (byte_pass 1 m) (end_pass (ended m) 1 (lines_of m)))

-- ---- the line that begins at a place: where its text ends, and where the next line begins

unfoldable pub line_at : List ℕ → ℕ → Line
line_at m at =
    let raw = before 10 (drop at m) in
    record { end = at + length (bare raw); next = at + min (length raw + 1) (length (drop at m)) }

-- where the line behind so many lines of a message begins
unfoldable pub start_behind : List ℕ → ℕ → ℕ
start_behind m zero = 0
start_behind m (suc n) = (line_at m (start_behind m n)).next

-- where the text of a line ends, counted from 1; and 0 for no line
unfoldable pub end_of : List ℕ → ℕ → ℕ
end_of m zero = 0
end_of m (suc n) = (line_at m (start_behind m n)).end
