-- Document 01, the value of 70E: what is a narrative and what is none, in one table.
use Prim.Native.String.{String}
use Rattle.std.specs.Prelude.{◌≡◌, Bool, true, false, List, [], ◌∷◌, map}
use Rattle.text.specs.Bytes.{bytes}
use Rattle.forms.specs.Narrative.{is_narrative}

-- what stands behind `//GSCC`, and whether it is a narrative
unfoldable pub cases : List (String × Bool)
cases =
    ("/TDSVSTIP", true)
    ∷ ("/TDSVSBOD/GUPP0", true)
    ∷ ("/TDSVTFTD/DKRSE004", true)
    ∷ ("/TDSVSBOD/GUPP9/DKRSE004", true)
    ∷ ("/TDSVOPTN", false)
    ∷ ("/TDSVSTIP/", false)
    ∷ ("/TDSVSTIP/GUPP", false)
    ∷ ("/TDSVSTIP/GUPP10", false)
    ∷ ("/TDSVSTIP/GUPPA", false)
    ∷ ("/TDSVSTIP/DKRSE04", false)
    ∷ ("/TDSVSTIP/DKRSE0041", false)
    ∷ ("/TDSVSTIP/DKRSE004/GUPP1", false)
    ∷ ("TDSVSTIP", false)
    ∷ ("", false)
    ∷ []

-- each text gets what stands beside it
abbrev pub Answered : Type 0
Answered = map (λ row. is_narrative (bytes row.0)) cases ≡ map (λ row. row.1) cases
