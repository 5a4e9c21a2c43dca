-- Request A4, the check digit of a security: nine c, of which the ninth brings the sum to a multiple of ten.
--   10  it is not nine c
--   23  its ninth character is a letter, or the wrong digit
use Rattle.std.specs.Prelude.{ℕ, suc, ◌+◌, ◌-◌, ◌*◌, ◌/◌, ◌%◌, ◌≡◌, Bool, ◌&&◌, cond, List, [], ◌∷◌, ◌++◌, eqb, length, get_or}
use Rattle.text.specs.Classes.{is_digit, is_code}
use Rattle.text.specs.Texts.{contents, in_form}
use Rattle.text.specs.Texts.{Text}

-- ---- the rule, as a sum of what each place adds. Places are counted from 1

-- the value of a c: of a digit 0 to 9, of a letter 10 (`A`) to 35 (`Z`)
unfoldable pub worth : ℕ → ℕ
worth b = cond (is_digit b) (b - 48) (b - 55)

-- at the places 2, 4, 6 and 8 it is doubled
unfoldable pub weighed : ℕ → ℕ → ℕ
weighed place b = cond (eqb (place % 2) 0) (worth b * 2) (worth b)

-- and its two decimal digits are added; so a digit in the ninth place adds itself
unfoldable pub adds : ℕ → ℕ → ℕ
adds place b = weighed place b / 10 + weighed place b % 10

-- characters that stand from a place on
unfoldable pub sum_from : ℕ → List ℕ → ℕ
sum_from place [] = 0
sum_from place (b ∷ s) = adds place b + sum_from (suc place) s

-- the ninth is a digit, and the sum is a multiple of ten
unfoldable pub is_checked : List ℕ → Bool
is_checked s = is_digit (get_or s 8 0) && eqb (sum_from 1 s % 10) 0

-- ---- what a value gets, and a record's text

unfoldable pub security_number : List ℕ → ℕ
security_number v = cond (is_code 9 9 v) (cond (is_checked v) 0 23) 10

unfoldable pub security_form : Text → Bool
security_form x = in_form 9 9 x && is_checked (contents x)

-- ---- eight characters have one check digit: it, and no other byte behind them, passes

unfoldable pub check_digit : List ℕ → ℕ
check_digit s = 48 + (10 - sum_from 1 s % 10) % 10

abbrev pub OneDigit : Type 0
OneDigit = (s : List ℕ) (b : ℕ) → length s ≡ 8 → is_checked (s ++ b ∷ []) ≡ eqb b (check_digit s)
