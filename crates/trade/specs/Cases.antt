-- Document 01, the value of 70E: the period that a narrative means. GUPP 0 is present.
use Prim.Native.String.{String}
use Rattle.std.specs.Prelude.{ℕ, ◌≡◌, List, [], ◌∷◌, map, Option, Some, None}
use Rattle.text.specs.Bytes.{bytes}
use Rattle.trade.specs.Narrative.{period_of}

-- a narrative, and the period that it means
unfoldable pub periods : List (String × Option ℕ)
periods =
    ("/TDSVSTIP", None)
    ∷ ("/TDSVSBOD/GUPP0", Some 0)
    ∷ ("/TDSVTFTD/DKRSE004", None)
    ∷ ("/TDSVSBOD/GUPP9/DKRSE004", Some 9)
    ∷ []

-- each text gets what stands beside it
abbrev pub Answered : Type 0
Answered = map (λ row. period_of (bytes row.0)) periods ≡ map (λ row. row.1) periods
