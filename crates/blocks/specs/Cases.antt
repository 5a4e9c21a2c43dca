-- Document 01, "Lines and blocks" and the numbers 5, 6 and 7, at their edges: the depth, the closes, the names and the tag
-- shape. Each row has the lines behind the header.
use Rattle.std.specs.Prelude.{ℕ, ◌≡◌, List, [], ◌∷◌, ◌++◌, map}
use Prim.Native.String.{String}
use Rattle.text.specs.Bytes.{bytes}
use Rattle.lines.specs.Verdicts.{refused, pass}
use Rattle.lines.specs.declared.Verdict.{Verdict}
use Rattle.blocks.specs.Blocks.{nest_pass}

-- lines as a text, each with its ending
unfoldable pub joined : List String → List ℕ
joined [] = []
joined (l ∷ ls) = bytes l ++ (10 ∷ joined ls)

unfoldable pub message : List String → List ℕ
message ls = joined ("" ∷ "0017" ∷ "515/000/GSCC" ∷ "MBSCTRRS" ∷ ls)

-- eight levels of blocks, opened in front of other lines
unfoldable pub eight : List String → List String
eight ls = ":16R:A" ∷ ":16R:B" ∷ ":16R:C" ∷ ":16R:D" ∷ ":16R:E" ∷ ":16R:F" ∷ ":16R:G" ∷ ":16R:H" ∷ ls

-- and closed again
unfoldable pub back : List String
back = ":16S:H" ∷ ":16S:G" ∷ ":16S:F" ∷ ":16S:E" ∷ ":16S:D" ∷ ":16S:C" ∷ ":16S:B" ∷ ":16S:A" ∷ "-" ∷ []

-- lines, and what the desk gets back
unfoldable pub cases : List (List String × Verdict)
cases =
    (eight back, pass)
    ∷ (eight (":16R:I" ∷ "-" ∷ []), refused 7 13)
    ∷ (eight (":16R:i" ∷ "-" ∷ []), refused 5 13)
    ∷ (eight (":16S:H" ∷ ":16R:I" ∷ ":16S:H" ∷ "-" ∷ []), refused 6 15)
    ∷ (":16R:A" ∷ ":16S:B" ∷ "-" ∷ [], refused 6 6)
    ∷ (":16R:AB" ∷ ":16S:A" ∷ "-" ∷ [], refused 6 6)
    ∷ (":16R:A" ∷ ":16S:AB" ∷ "-" ∷ [], refused 6 6)
    ∷ (":16S:A" ∷ "-" ∷ [], refused 6 5)
    ∷ (":16R:A" ∷ ":20C:x" ∷ "-" ∷ [], refused 6 7)
    ∷ ("-" ∷ [], pass)
    ∷ (":16R:" ∷ "-" ∷ [], refused 5 5)
    ∷ (":16R:a" ∷ "-" ∷ [], refused 5 5)
    ∷ (":16S:a" ∷ "-" ∷ [], refused 5 5)
    ∷ (":16R:ABCDEFGHIJKLMNOP" ∷ ":16S:ABCDEFGHIJKLMNOP" ∷ "-" ∷ [], pass)
    ∷ (":16R:ABCDEFGHIJKLMNOPQ" ∷ "-" ∷ [], refused 5 5)
    ∷ (":20C:" ∷ "-" ∷ [], refused 5 5)
    ∷ (":20C:x" ∷ "-" ∷ [], pass)
    ∷ ("20C::SEME" ∷ "-" ∷ [], refused 5 5)
    ∷ (":2OC:x" ∷ "-" ∷ [], refused 5 5)
    ∷ (":201:x" ∷ "-" ∷ [], refused 5 5)
    ∷ (":20c:x" ∷ "-" ∷ [], refused 5 5)
    ∷ (":20C:x" ∷ ":20C;x" ∷ "-" ∷ [], refused 5 6)
    ∷ ("" ∷ "-" ∷ [], refused 5 5)
    ∷ []

-- each message gets what stands beside its lines
abbrev pub Answered : Type 0
Answered = map (λ row. nest_pass (message row.0)) cases ≡ map (λ row. row.1) cases
