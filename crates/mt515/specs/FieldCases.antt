-- Document 01, "One field", of its message B: the value of each slot from 1 to 21. The seller's block stands before the buyer's, and
-- its slots are 15 to 17 all the same. And where some values begin, with LF and with CR LF.
use Rattle.std.specs.Prelude.{ℕ, ◌≡◌, List, [], ◌∷◌, map}
use Prim.Native.String.{String}
use Rattle.text.specs.Bytes.{bytes}
use Rattle.format.specs.Changes.{ended}
use Rattle.mt515.specs.Cases.{b}
use Rattle.mt515.specs.Field.{field_of, place_of}

unfoldable pub fields : List (ℕ × String)
fields =
    (1, "0008")
    ∷ (2, "NEWM")
    ∷ (3, "")
    ∷ (4, "0017")
    ∷ (5, "")
    ∷ (6, "")
    ∷ (7, "20240229093000")
    ∷ (8, "20240313")
    ∷ (9, "99,50")
    ∷ (10, "BUYI")
    ∷ (11, "INST")
    ∷ (12, "0017")
    ∷ (13, "")
    ∷ (14, "")
    ∷ (15, "0015")
    ∷ (16, "")
    ∷ (17, "")
    ∷ (18, "0001000000,")
    ∷ (19, "01F070633")
    ∷ (20, "")
    ∷ (21, "TDSVSTIP")
    ∷ []

-- an ending, a slot, and where its value begins
unfoldable pub offsets : List (String × ℕ × ℕ)
offsets = ("\n", 4, 108) ∷ ("\r\n", 4, 117) ∷ ("\n", 15, 306) ∷ ("\r\n", 21, 470) ∷ []

abbrev pub Answered : Type 0
Answered =
    (map (λ row. field_of (ended "\n" b) row.0) fields ≡ map (λ row. bytes row.1) fields)
    × (map (λ row. (place_of (ended row.0 b) row.1).offset) offsets ≡ map (λ row. row.2) offsets)
