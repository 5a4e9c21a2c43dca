-- Digits and the whole number that they spell, both ways; dates, times and amounts are made of them.
use Rattle.std.specs.Prelude.{ℕ, zero, suc, ◌+◌, ◌-◌, ◌*◌, ◌/◌, ◌%◌, ◌^◌, Bool, ◌&&◌, cond, List, [], ◌∷◌, ◌++◌, leb, ltb, eqb, length, Option, Some, None}
use Rattle.text.specs.Classes.{all_in, in_class}
use Rattle.text.specs.declared.Class.TheVariants.{Digit}
use Rattle.digits.specs.declared.Run.{Run}

-- digits read on behind a number that was read already
unfoldable pub numeral_from : ℕ → List ℕ → ℕ
numeral_from n [] = n
numeral_from n (b ∷ s) = numeral_from (n * 10 + (b - 48)) s

-- the whole number that digits spell; noughts in front do not count
unfoldable pub numeral : List ℕ → ℕ
numeral s = numeral_from 0 s

-- the last `width` digits of a number, with noughts in front where it has fewer
unfoldable pub digits : ℕ → ℕ → List ℕ
digits zero n = []
digits (suc width) n = digits width (n / 10) ++ ((48 + n % 10) ∷ [])

-- digits and nothing else
abbrev pub digits_alone : List ℕ → Bool
digits_alone s = all_in Digit s

-- the digits that a part begins with
unfoldable pub digit_run : List ℕ → List ℕ
digit_run [] = []
digit_run (b ∷ s) = cond (in_class Digit b) (b ∷ digit_run s) []

-- the same of a part of at most eighteen bytes, so that every number fits its place; of a longer one none
unfoldable pub short_run : List ℕ → List ℕ
short_run s = cond (leb (length s) 18) (digit_run s) []

unfoldable pub run_of : List ℕ → Run
run_of s = record { number = numeral (short_run s); len = length (short_run s) }

-- a part as a number: digits alone, at most eighteen of them, so that every number fits its place
unfoldable pub number_of : List ℕ → Option ℕ
number_of s = cond (leb (length s) 18 && all_in Digit s) (Some (numeral s)) None

-- the same of a part that has exactly `width` digits
unfoldable pub wide_number : ℕ → List ℕ → Option ℕ
wide_number width s = cond (eqb (length s) width) (number_of s) None

-- the power of ten that moves a comma by a number of places, up to fourteen
unfoldable pub ten_to : ℕ → ℕ
ten_to d = cond (ltb d 15) (10 ^ d) 0
