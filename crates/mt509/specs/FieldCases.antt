-- Request A3, "Worked cases": the value of each field of R from 1 to 31, and where some of them stand in R with CR LF.
use Rattle.std.specs.Prelude.{ℕ, ◌≡◌, List, [], ◌∷◌, map}
use Prim.Native.String.{String}
use Rattle.text.specs.Bytes.{bytes}
use Rattle.format.specs.Changes.{ended}
use Rattle.format.specs.Field.{field_of}
use Rattle.answer_values.specs.Mt509.{mt509}
use Rattle.mt509.specs.Cases.{r}
use Rattle.field.specs.Field.{place_of}
use Rattle.field.specs.declared.Stretch.{Stretch}

unfoldable pub fields : List (ℕ × String)
fields =
    (1, "RTTM0005")
    ∷ (2, "INST")
    ∷ (3, "20240229093001")
    ∷ (4, "0017")
    ∷ (5, "")
    ∷ (6, "0008")
    ∷ (7, "000001-1306")
    ∷ (8, "")
    ∷ (9, "")
    ∷ (10, "")
    ∷ (11, "IPRC//REJT")
    ∷ (12, "E001")
    ∷ (13, "GSCC/MDRJ")
    ∷ (14, "E016")
    ∷ (15, "")
    ∷ (16, "") ∷ (17, "") ∷ (18, "") ∷ (19, "") ∷ (20, "") ∷ (21, "") ∷ (22, "") ∷ (23, "")
    ∷ (24, "") ∷ (25, "") ∷ (26, "") ∷ (27, "") ∷ (28, "") ∷ (29, "") ∷ (30, "") ∷ (31, "")
    ∷ []

-- a field, where it begins, and how many bytes it has; 0 and 32 name none
unfoldable pub places : List (ℕ × ℕ × ℕ)
places =
    (1, 55, 8) ∷ (4, 167, 4) ∷ (6, 127, 4) ∷ (7, 207, 11) ∷ (11, 248, 10) ∷ (12, 287, 4) ∷ (13, 305, 9) ∷ (14, 354, 4)
    ∷ (15, 0, 0) ∷ (31, 0, 0) ∷ (0, 0, 0) ∷ (32, 0, 0)
    ∷ []

abbrev stretch : ℕ → ℕ → Stretch
stretch offset count = record { number = 0; offset = offset; count = count }

abbrev pub Answered : Type 0
Answered =
    (map (λ row. field_of mt509 (ended "\n" r) row.0) fields ≡ map (λ row. bytes row.1) fields)
    × (map (λ row. place_of mt509 (ended "\r\n" r) row.0) places ≡ map (λ row. stretch row.1 row.2) places)
