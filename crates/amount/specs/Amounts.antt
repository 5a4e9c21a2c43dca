-- Document 01, "Amounts": 1 to 15 characters, digits and exactly one comma, with at least one digit before the comma. The
-- meaning is a whole number of the digits and a count of decimals, with nothing lost.
use Rattle.std.specs.Prelude.{ℕ, suc, ◌+◌, ◌-◌, ◌*◌, ◌%◌, ◌^◌, Bool, ◌&&◌, ◌||◌, not, cond, List, [], ◌∷◌, ◌++◌, leb, ltb, eqb, length, take, drop, Option, Some, None}
use Rattle.text.specs.Bytes.{before}
use Rattle.text.specs.Classes.{all_in}
use Rattle.text.specs.declared.Class.TheVariants.{Digit}
use Rattle.digits.specs.Numerals.{numeral, digits}
use Rattle.amount.specs.declared.Amount.{Amount}
use Rattle.amount.specs.declared.Trim.{Trim}

-- ---- the text of an amount

-- what stands before the first comma
unfoldable pub whole : List ℕ → List ℕ
whole s = before 44 s

-- what stands behind it
unfoldable pub decimals : List ℕ → List ℕ
decimals s = drop (length (whole s) + 1) s

unfoldable pub is_amount : List ℕ → Bool
is_amount s =
    leb (length s) 15
    && (ltb (length (whole s)) (length s)
    && (leb 1 (length (whole s)) && (all_in Digit (whole s) && all_in Digit (decimals s))))

-- ---- the tidy text: `0017,` is `17,`; `99,50` is `99,5`; zero is `0,`

-- without the needless noughts before the first digit of the whole part
unfoldable pub trimmed : List ℕ → List ℕ
trimmed [] = []
trimmed (b ∷ []) = b ∷ []
trimmed (b ∷ c ∷ s) = cond (eqb b 48) (trimmed (c ∷ s)) (b ∷ c ∷ s)

-- a nought in front of what is left of the decimals goes with them where nothing is left
unfoldable pub kept_before : ℕ → List ℕ → List ℕ
kept_before b [] = cond (eqb b 48) [] (b ∷ [])
kept_before b (c ∷ s) = b ∷ c ∷ s

-- without the noughts at the end of the decimals
unfoldable pub shortened : List ℕ → List ℕ
shortened [] = []
shortened (b ∷ s) = kept_before b (shortened s)

unfoldable pub tidy : List ℕ → List ℕ
tidy s = trimmed (whole s) ++ 44 ∷ shortened (decimals s)

-- ---- the meaning of a text: its digits as one whole number, and the count of its decimals, in the shortest form

unfoldable pub meaning_of : List ℕ → List ℕ → Amount
meaning_of w f = record { number = numeral (w ++ shortened f); decimals = length (shortened f) }

unfoldable pub meaning : List ℕ → Amount
meaning s = meaning_of (whole s) (decimals s)

unfoldable pub amount_read : List ℕ → Option Amount
amount_read s = cond (is_amount s) (Some (meaning s)) None

-- the number that the desk gets: 11 for whatever is wrong
abbrev pub amount_number : Option Amount → ℕ
amount_number (Some a) = 0
amount_number None = 11

-- ---- an amount of a record

-- in form: at most fourteen digits, one of them before the comma, and no nought at the end of the decimals
unfoldable pub in_form : Amount → Bool
in_form a = ltb a.number (10 ^ 14) && (leb a.decimals 13 && (eqb a.decimals 0 || not (eqb (a.number % 10) 0)))

-- fourteen digits, with the comma before the last `decimals` of them
unfoldable pub spread : Amount → List ℕ
spread a = take (14 - a.decimals) (digits 14 a.number) ++ 44 ∷ drop (14 - a.decimals) (digits 14 a.number)

-- what is in form is written as its shortest text, and anything else as nothing
unfoldable pub amount_text : Amount → List ℕ
amount_text a = cond (in_form a) (tidy (spread a)) []

-- the named zero and the named largest value of each kind: fourteen nines
abbrev pub nought : Amount
nought = record { number = 0; decimals = 0 }

abbrev pub most : Amount
most = record { number = 99999999999999; decimals = 0 }

-- how many noughts stand in front
unfoldable pub noughts : List ℕ → ℕ
noughts [] = 0
noughts (b ∷ s) = cond (eqb b 48) (suc (noughts s)) 0

-- from where to where the shortest text stands in a text: behind the noughts before the last whole digit, and up to what is left of the
-- decimals. Of a text without a comma nothing goes
unfoldable pub shortest_of : List ℕ → Trim
shortest_of s =
    cond (ltb (length (whole s)) (length s))
    (record { from = noughts (take (length (whole s) - 1) (whole s)); to = length (whole s) + 1 + length (shortened (decimals s)) })
    (record { from = 0; to = length s })

-- ---- a step of the code

-- the number of a whole part, and decimals that are digits
unfoldable pub parts_read : ℕ → List ℕ → Option Amount
parts_read n f =
    cond (all_in Digit f) (Some (record { number = n * 10 ^ length (shortened f) + numeral (shortened f); decimals = length (shortened f) })) None
