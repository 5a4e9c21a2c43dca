-- Document 01, "Dates": YYYYMMDD, year 0001 to 9999, Gregorian leap years; times 000000 to 235959 with minutes and seconds
-- to 59; a date and time is 14 digits.
use Rattle.std.specs.Prelude.{ℕ, ◌+◌, ◌*◌, ◌/◌, ◌%◌, Bool, ◌&&◌, ◌||◌, not, cond, List, [], leb, ltb, eqb, take, drop, Option, Some, None}
use Rattle.digits.specs.Numerals.{numeral, digits, wide_number}
use Rattle.calendar.specs.declared.Date.{Date}
use Rattle.calendar.specs.declared.Moment.{Moment}

-- ---- the calendar

-- a date is the number that its eight digits spell, YYYYMMDD
unfoldable pub year : ℕ → ℕ
year n = n / 10000

unfoldable pub month : ℕ → ℕ
month n = n / 100 % 100

unfoldable pub day : ℕ → ℕ
day n = n % 100

unfoldable pub leap : ℕ → Bool
leap y = eqb (y % 4) 0 && (not (eqb (y % 100) 0) || eqb (y % 400) 0)

-- a number that names a month
unfoldable pub is_month : ℕ → Bool
is_month m = leb 1 m && leb m 12

-- the days of February in a year
unfoldable pub february : ℕ → ℕ
february y = cond (leap y) 29 28

-- up to July the odd months are long, from August on the even ones
unfoldable pub is_long : ℕ → Bool
is_long m = cond (leb m 7) (eqb (m % 2) 1) (eqb (m % 2) 0)

-- the days of a month: none of a number that names no month, those of February by the year, and of any other month by whether it
-- is long
unfoldable pub month_length : ℕ → ℕ → ℕ
month_length y m = cond (not (is_month m)) 0 (cond (eqb m 2) (february y) (cond (is_long m) 31 30))

-- a year, a month and a day that the month has
abbrev pub is_day : ℕ → ℕ → ℕ → Bool
is_day y m d = leb 1 y && (leb y 9999 && (leb 1 m && (leb m 12 && (leb 1 d && leb d (month_length y m)))))

unfoldable pub is_date : ℕ → Bool
is_date n = is_day (year n) (month n) (day n)

-- a time of day is the number that its six digits spell, HHMMSS
unfoldable pub is_time : ℕ → Bool
is_time n = leb (n / 10000) 23 && (leb (n / 100 % 100) 59 && leb (n % 100) 59)

-- one date is earlier than another: by year, then by month, then by day
unfoldable pub earlier : Date → Date → Bool
earlier a b =
    ltb (year a.0) (year b.0)
    || (eqb (year a.0) (year b.0)
    && (ltb (month a.0) (month b.0) || (eqb (month a.0) (month b.0) && ltb (day a.0) (day b.0))))

-- a date and time are both
unfoldable pub is_moment : Moment → Bool
is_moment m = is_date m.date.0 && is_time m.time.0

-- ---- reading: digits alone, as many as the form has, that name a day or a moment; anything else is wrong

unfoldable pub date_from : Option ℕ → Option Date
date_from (Some n) = cond (is_date n) (Some (record { 0 = n })) None
date_from None = None

unfoldable pub date_read : List ℕ → Option Date
date_read s = date_from (wide_number 8 s)

-- fourteen digits are the eight of the date and the six of the time
unfoldable pub moment_of : ℕ → Moment
moment_of n = record { date = record { 0 = n / 1000000 }; time = record { 0 = n % 1000000 } }

unfoldable pub moment_from : Option ℕ → Option Moment
moment_from (Some n) = cond (is_moment (moment_of n)) (Some (moment_of n)) None
moment_from None = None

unfoldable pub moment_read : List ℕ → Option Moment
moment_read s = moment_from (wide_number 14 s)

-- the number that the desk gets: 12 for whatever is wrong
abbrev pub read_number : {T : Type 0} → Option T → ℕ
read_number (Some t) = 0
read_number None = 12

abbrev pub date_number : Option Date → ℕ
date_number d = read_number d

abbrev pub moment_number : Option Moment → ℕ
moment_number m = read_number m

-- ---- writing: what is in form is written as its digits, and anything else as nothing

unfoldable pub date_text : Date → List ℕ
date_text d = cond (is_date d.0) (digits 8 d.0) []

unfoldable pub moment_text : Moment → List ℕ
moment_text m = cond (is_moment m) (digits 14 (m.date.0 * 1000000 + m.time.0)) []

-- ---- a step of the code

-- the number of two digits at a place
abbrev pub two : List ℕ → ℕ → ℕ
two s at = numeral (take 2 (drop at s))

-- a number that is a time of day
unfoldable pub time_from : ℕ → Option ℕ
time_from n = cond (is_time n) (Some n) None
