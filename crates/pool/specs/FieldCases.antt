-- Request A1, "P, and worked cases": the value of each field of P from 1 to 19, and where some of them stand in P with CR LF.
use Rattle.std.specs.Prelude.{ℕ, ◌≡◌, List, [], ◌∷◌, map}
use Prim.Native.String.{String}
use Rattle.text.specs.Bytes.{bytes}
use Rattle.format.specs.Changes.{ended}
use Rattle.format.specs.Field.{field_of}
use Rattle.pool_values.specs.Pool.{pool}
use Rattle.pool.specs.Cases.{p}
use Rattle.field.specs.Field.{place_of}
use Rattle.field.specs.declared.Stretch.{Stretch}

unfoldable pub fields : List (ℕ × String)
fields =
    (1, "0008")
    ∷ (2, "NEWM")
    ∷ (3, "0017")
    ∷ (4, "")
    ∷ (5, "")
    ∷ (6, "20240229000000")
    ∷ (7, "20240313")
    ∷ (8, "99,50")
    ∷ (9, "0,00")
    ∷ (10, "BUYI")
    ∷ (11, "INST")
    ∷ (12, "0017")
    ∷ (13, "")
    ∷ (14, "0015")
    ∷ (15, "")
    ∷ (16, "0001000000,")
    ∷ (17, "01F070633")
    ∷ (18, "123456")
    ∷ (19, "TDSVPOOL/CDRY/DDTE20240313")
    ∷ []

-- a field, where it begins, and how many bytes it has
unfoldable pub places : List (ℕ × ℕ × ℕ)
places =
    (1, 55, 4) ∷ (9, 248, 4) ∷ (12, 403, 4) ∷ (14, 347, 4) ∷ (17, 463, 9) ∷ (19, 535, 26)
    ∷ (4, 0, 0) ∷ (5, 0, 0) ∷ (13, 0, 0) ∷ (15, 0, 0) ∷ (0, 0, 0) ∷ (20, 0, 0)
    ∷ []

abbrev stretch : ℕ → ℕ → Stretch
stretch offset count = record { number = 0; offset = offset; count = count }

abbrev pub Answered : Type 0
Answered =
    (map (λ row. field_of pool (ended "\n" p) row.0) fields ≡ map (λ row. bytes row.1) fields)
    × (map (λ row. place_of pool (ended "\r\n" p) row.0) places ≡ map (λ row. stretch row.1 row.2) places)
