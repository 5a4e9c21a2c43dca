-- The amounts of document 01, "B and its neighbours", that are marked to be proved, with the edges of the form beside them,
-- in one table.
use Rattle.std.specs.Prelude.{ℕ, ◌≡◌, List, [], ◌∷◌, map, Option, Some, None}
use Prim.Native.String.{String}
use Rattle.text.specs.Bytes.{bytes}
use Rattle.amount.specs.Amounts.{amount_read, amount_number, amount_text, tidy}
use Rattle.amount.specs.declared.Amount.{Amount}

abbrev pub is : ℕ → ℕ → Option Amount
is number decimals = Some (record { number = number; decimals = decimals })

-- a text, what it is read as, and its tidied text where it is an amount's
unfoldable pub cases : List (String × Option Amount × String)
cases =
    ("0017,", is 17 0, "17,")
    ∷ ("17,", is 17 0, "17,")
    ∷ ("99,50", is 995 1, "99,5")
    ∷ ("0001000000,", is 1000000 0, "1000000,")
    ∷ ("0,", is 0 0, "0,")
    ∷ ("0,000", is 0 0, "0,")
    ∷ ("00,05", is 5 2, "0,05")
    ∷ ("0,0000000000005", is 5 13, "0,0000000000005")
    ∷ ("99999999999999,", is 99999999999999 0, "99999999999999,")
    ∷ ("12345678901234,", is 12345678901234 0, "12345678901234,")
    ∷ ("123456789012345,", None, "")
    ∷ ("1234567,89012345", None, "")
    ∷ (",", None, "")
    ∷ (",5", None, "")
    ∷ ("17", None, "")
    ∷ ("1,2,", None, "")
    ∷ ("1.2,", None, "")
    ∷ ("-1,", None, "")
    ∷ (" 1,", None, "")
    ∷ ("", None, "")
    ∷ []

-- what is written of what was read, and the tidied text of what is an amount's
abbrev pub written : Option Amount → List ℕ
written (Some a) = amount_text a
written None = []

abbrev pub tidied : Option Amount → List ℕ → List ℕ
tidied (Some a) s = tidy s
tidied None s = []

-- each text is read as the table says, and what is none gets 11; what was read is written as its tidied text
abbrev pub Answered : Type 0
Answered =
    (map (λ row. amount_read (bytes row.0)) cases ≡ map (λ row. row.1) cases)
    × (map (λ row. written (amount_read (bytes row.0))) cases ≡ map (λ row. bytes row.2) cases)
    × (map (λ row. tidied (amount_read (bytes row.0)) (bytes row.0)) cases ≡ map (λ row. bytes row.2) cases)
    × (amount_number None ≡ 11)
