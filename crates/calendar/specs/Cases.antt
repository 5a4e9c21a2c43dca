-- The dates of document 01, "B and its neighbours", that are marked to be proved, with the edges of years, months, days,
-- widths and times beside them, in one table; the days of every month in seven years; and the months as they were listed before they
-- were worked out.
use Rattle.std.specs.Prelude.{ℕ, ◌≡◌, ◌&&◌, cond, List, [], ◌∷◌, map, eqb, get_or}
use Prim.Native.String.{String}
use Rattle.text.specs.Bytes.{bytes}
use Rattle.calendar.specs.Dates.{leap, month_length, date_read, date_number, moment_read, moment_number}

-- the number that the desk gets for a part that is read as a date, and for one that is read as a date and time
abbrev pub date : List ℕ → ℕ
date s = date_number (date_read s)

abbrev pub moment : List ℕ → ℕ
moment s = moment_number (moment_read s)

-- how a part is read, the part, and its number: 0 where it passes
unfoldable pub cases : List ((List ℕ → ℕ) × String × ℕ)
cases =
    (date, "20240229", 0)
    ∷ (date, "20000229", 0)
    ∷ (date, "20230229", 12)
    ∷ (date, "19000229", 12)
    ∷ (date, "00010101", 0)
    ∷ (date, "00000101", 12)
    ∷ (date, "99991231", 0)
    ∷ (date, "20240131", 0)
    ∷ (date, "20230228", 0)
    ∷ (date, "20240230", 12)
    ∷ (date, "20240431", 12)
    ∷ (date, "20240631", 12)
    ∷ (date, "20240731", 0)
    ∷ (date, "20240831", 0)
    ∷ (date, "20240931", 12)
    ∷ (date, "20241131", 12)
    ∷ (date, "20241231", 0)
    ∷ (date, "20241301", 12)
    ∷ (date, "20240001", 12)
    ∷ (date, "20240100", 12)
    ∷ (date, "2024022", 12)
    ∷ (date, "202402290", 12)
    ∷ (date, "2024022A", 12)
    ∷ (moment, "20240229000000", 0)
    ∷ (moment, "20240229235959", 0)
    ∷ (moment, "20230229235959", 12)
    ∷ (moment, "20240229240000", 12)
    ∷ (moment, "20240229236000", 12)
    ∷ (moment, "20240229000060", 12)
    ∷ (moment, "20240229", 12)
    ∷ []

-- each part gets the number beside it
abbrev pub Answered : Type 0
Answered = map (λ row. row.0 (bytes row.1)) cases ≡ map (λ row. row.2) cases

-- ---- the months

-- years, and the days that each number from 0 to 13 has as a month of theirs
unfoldable pub months : List (List ℕ × List ℕ)
months =
    (2023 ∷ 1900 ∷ 2100 ∷ [], 0 ∷ 31 ∷ 28 ∷ 31 ∷ 30 ∷ 31 ∷ 30 ∷ 31 ∷ 31 ∷ 30 ∷ 31 ∷ 30 ∷ 31 ∷ 0 ∷ [])
    ∷ (2024 ∷ 2000 ∷ 1600 ∷ 4 ∷ [], 0 ∷ 31 ∷ 29 ∷ 31 ∷ 30 ∷ 31 ∷ 30 ∷ 31 ∷ 31 ∷ 30 ∷ 31 ∷ 30 ∷ 31 ∷ 0 ∷ [])
    ∷ []

-- the days that a year's months have by the rule
unfoldable pub months_of : ℕ → List ℕ
months_of y = map (month_length y) (0 ∷ 1 ∷ 2 ∷ 3 ∷ 4 ∷ 5 ∷ 6 ∷ 7 ∷ 8 ∷ 9 ∷ 10 ∷ 11 ∷ 12 ∷ 13 ∷ [])

-- each year has the days beside it
abbrev pub Tabled : Type 0
Tabled = map (λ row. map months_of row.0) months ≡ map (λ row. map (λ y. row.1) row.0) months

-- the days of each month of a common year, January at 1, and by them those of any month, as they stood before the rule did
unfoldable pub lengths : List ℕ
lengths = 0 ∷ 31 ∷ 28 ∷ 31 ∷ 30 ∷ 31 ∷ 30 ∷ 31 ∷ 31 ∷ 30 ∷ 31 ∷ 30 ∷ 31 ∷ []

unfoldable pub listed : ℕ → ℕ → ℕ
listed y m = cond (eqb m 2 && leap y) 29 (get_or lengths m 0)

-- no answer has changed: the rule gives what the list gave, of every year and every number
abbrev pub AsListed : Type 0
AsListed = (y m : ℕ) → month_length y m ≡ listed y m
