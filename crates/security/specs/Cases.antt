-- Request A4, the worked cases: what each of some values gets, and what the eight places of four securities add.
use Rattle.std.specs.Prelude.{ℕ, suc, ◌≡◌, List, [], ◌∷◌, map, take}
use Prim.Native.String.{String}
use Rattle.text.specs.Bytes.{bytes}
use Rattle.security.specs.Security.{adds, check_digit, security_number}

-- a value, and its number
unfoldable pub cases : List (String × ℕ)
cases =
    ("01F070633", 0)
    ∷ ("01F070641", 0)
    ∷ ("01F050650", 0)
    ∷ ("01F040693", 0)
    ∷ ("02R060670", 0)
    ∷ ("000000000", 0)
    ∷ ("ZZZZZZZZ0", 0)
    ∷ ("037833100", 0)
    ∷ ("38259P508", 0)
    -- another digit, a letter, neighbours exchanged
    ∷ ("01F070634", 23)
    ∷ ("01F07063C", 23)
    ∷ ("01F07063D", 23)
    ∷ ("10F070633", 23)
    ∷ ("01F073063", 23)
    ∷ ("01F070363", 23)
    ∷ ("WWWWWWWWW", 23)
    ∷ ("CUSIP6788", 0)
    ∷ ("CUSIP6789", 23)
    -- 10 comes first
    ∷ ("01F07063", 10)
    ∷ ("01F0706333", 10)
    ∷ ("01F07063 ", 10)
    ∷ ("01f070633", 10)
    ∷ ("01f070634", 10)
    ∷ ("NONCUSIP", 10)
    ∷ ("", 10)
    ∷ []

-- what each character adds, from a place on
unfoldable pub adds_from : ℕ → List ℕ → List ℕ
adds_from place [] = []
adds_from place (b ∷ s) = adds place b ∷ adds_from (suc place) s

-- a security, what its first eight places add, and the byte of its check digit
unfoldable pub sums : List (String × List ℕ × ℕ)
sums =
    ("01F070633", 0 ∷ 2 ∷ 6 ∷ 0 ∷ 7 ∷ 0 ∷ 6 ∷ 6 ∷ [], 51)
    ∷ ("01F070641", 0 ∷ 2 ∷ 6 ∷ 0 ∷ 7 ∷ 0 ∷ 6 ∷ 8 ∷ [], 49)
    ∷ ("01F050650", 0 ∷ 2 ∷ 6 ∷ 0 ∷ 5 ∷ 0 ∷ 6 ∷ 1 ∷ [], 48)
    ∷ ("ZZZZZZZZ0", 8 ∷ 7 ∷ 8 ∷ 7 ∷ 8 ∷ 7 ∷ 8 ∷ 7 ∷ [], 48)
    ∷ []

pub record Answered : Type 0 where
  pub numbers : map (λ row. security_number (bytes row.0)) cases ≡ map (λ row. row.1) cases
  pub added : map (λ row. adds_from 1 (take 8 (bytes row.0))) sums ≡ map (λ row. row.1) sums
  pub digits : map (λ row. check_digit (take 8 (bytes row.0))) sums ≡ map (λ row. row.2) sums
