-- Values of so many c or `-`, and of so many bytes from 20 to 7E hex: what each of some values gets by the number of its form, in one table.
use Rattle.std.specs.Prelude.{ℕ, ◌≡◌, List, [], ◌∷◌, map}
use Prim.Native.String.{String}
use Rattle.text.specs.Bytes.{bytes}
use Rattle.forms.specs.Forms.{form_number}
use Rattle.forms.specs.Slots.{form_of}

-- 1 to 16 c or `-`, and 1 to 35 bytes from 20 to 7E hex
abbrev hyphened : List ℕ → ℕ
hyphened v = form_number (form_of [] 8 1 16) v

abbrev printed : List ℕ → ℕ
printed v = form_number (form_of [] 9 1 35) v

-- a value, its number as the first and as the second
unfoldable pub cases : List (String × ℕ × ℕ)
cases =
    ("-", 0, 0)
    ∷ ("00-17", 0, 0)
    ∷ ("--A--", 0, 0)
    ∷ ("1234567890-ABCDE", 0, 0)
    ∷ ("1234567890-ABCDEF", 10, 0)
    ∷ ("00-17a", 10, 0)
    ∷ ("00_17", 10, 0)
    ∷ ("00/17", 10, 0)
    ∷ (" ", 10, 0)
    ∷ ("00 17", 10, 0)
    ∷ ("~", 10, 0)
    ∷ ("no such trade, ask the other side !", 10, 0)
    ∷ ("no such trade, ask the other side !!", 10, 10)
    ∷ ("", 10, 10)
    ∷ []

-- each value gets what stands beside it; the bytes before 20 hex and behind 7E hex are neither, and a number behind these takes any text
pub record Answered : Type 0 where
  pub hyphens : map (λ row. hyphened (bytes row.0)) cases ≡ map (λ row. row.1) cases
  pub prints : map (λ row. printed (bytes row.0)) cases ≡ map (λ row. row.2) cases
  pub below : printed (31 ∷ []) ≡ 10
  pub behind : printed (127 ∷ []) ≡ 10
  pub unnumbered : form_number (form_of [] 10 1 35) (127 ∷ []) ≡ 0
