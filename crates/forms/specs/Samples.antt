-- Slots as bytes: a slot that takes one of six words, and what each of some values gets, in one table.
use Rattle.std.specs.Prelude.{ℕ, ◌≡◌, List, [], ◌∷◌, ◌++◌, map}
use Prim.Native.String.{String}
use Rattle.text.specs.Bytes.{bytes}
use Rattle.forms.specs.Words.{word_at}
use Rattle.forms.specs.Forms.{value_number}
use Rattle.forms.specs.Slots.{words_in, slot_at}

abbrev word : ℕ → String → List ℕ
word width text = 0 ∷ 0 ∷ 0 ∷ width ∷ bytes text

-- one slot, whose words stand in the lines 1 to 6
unfoldable pub sample : List ℕ
sample =
    (2 ∷ 1 ∷ 6 ∷ 2 ∷ bytes "//              ")
    ++ (word 1 "Y               "
    ++ (word 2 "NO              "
    ++ (word 4 "CASH            "
    ++ (word 7 "PARTIAL         "
    ++ (word 10 "RECOMPARED      "
    ++ word 16 "UNCOMPARED TRADE")))))

-- a value, its number in the slot, and the place among the words of what stands behind `//`
unfoldable pub values : List (String × ℕ × ℕ)
values =
    ("Y", 0, 0)
    ∷ ("NO", 0, 1)
    ∷ ("CASH", 0, 2)
    ∷ ("PARTIAL", 0, 3)
    ∷ ("RECOMPARED", 0, 4)
    ∷ ("UNCOMPARED TRADE", 0, 5)
    ∷ ("CAS", 10, 6)
    ∷ ("CASH ", 10, 6)
    ∷ ("CASHY", 10, 6)
    ∷ ("cash", 10, 6)
    ∷ ("RECOMPARED      ", 10, 6)
    ∷ ("UNCOMPARED", 10, 6)
    ∷ ("", 10, 6)
    ∷ []

-- each value gets what stands beside it; without its fixed text none is right, a slot that the bytes do not reach takes any text,
-- and a word that they do not reach is empty
pub record Held : Type 0 where
  pub numbers : map (λ row. value_number (slot_at sample 0) (bytes "//" ++ bytes row.0)) values ≡ map (λ row. row.1) values
  pub places : map (λ row. word_at (words_in sample 1 6) (bytes row.0)) values ≡ map (λ row. row.2) values
  pub bare : value_number (slot_at sample 0) (bytes "CASH") ≡ 10
  pub unreached : value_number (slot_at sample 7) (bytes "CASH") ≡ 0
  pub empty : words_in sample 6 2 ≡ bytes "UNCOMPARED TRADE" ∷ [] ∷ []
