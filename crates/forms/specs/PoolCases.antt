-- Request A1 of document 02, section 10: what the rows of 70E get by their values alone, in one table.
use Rattle.std.specs.Prelude.{ℕ, ◌≡◌, List, [], ◌∷◌, map}
use Prim.Native.String.{String}
use Rattle.text.specs.Bytes.{bytes}
use Rattle.forms.specs.Pool.{pool_number}

-- what stands behind `//DTCY`, and its number
unfoldable pub cases : List (String × ℕ)
cases =
    ("/TDSVPOOL/CDRY/DDTE20240313", 0)
    ∷ ("/TDSVPOOL", 0)
    ∷ ("/TDSVSBOD", 10)
    ∷ ("/TDSVPOOL/GUPP0", 10)
    ∷ ("/TDSVPOOL/DDTE20240313/CDRY", 10)
    ∷ ("/TDSVPOOL/CDRYY", 10)
    ∷ ("/TDSVPOOL/DDTE20230229", 12)
    ∷ ("/TDSVPOOL/DDTE", 12)
    ∷ ("/TDSVPOOL/DDTE202403131", 12)
    ∷ ("/TDSVPOOL/DDTE2024031", 12)
    ∷ ("/TDSVPOOL/DDTE20230229/DKRSE00", 10)
    ∷ ("/TDSVPOOL/DDTE/20240313", 10)
    ∷ ("/TDSVPOOL/DDTE00010101", 0)
    ∷ ("/TDSVPOOL/DKRSE004", 0)
    ∷ ("/TDSVPOOL/DDTE20240313/DKRSE004", 0)
    ∷ ("/TDSVPOOL/DDTE20240313", 0)
    ∷ ("/TDSVPOOL/CDRY/DDTE20240313/DKRSE004", 0)
    -- and what the shape says beside them
    ∷ ("/TDSVPOOL/DDTE20230229/DKRSE004", 12)
    ∷ ("/TDSVPOOL/CDRY/CDRY", 10)
    ∷ ("/TDSVPOOL/DKRSE004/DDTE20240313", 10)
    ∷ ("/TDSVPOOL/", 10)
    ∷ ("TDSVPOOL", 10)
    ∷ ("", 10)
    ∷ []

-- each text gets what stands beside it
abbrev pub Answered : Type 0
Answered = map (λ row. pool_number (bytes row.0)) cases ≡ map (λ row. row.1) cases
