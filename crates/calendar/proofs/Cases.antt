-- Each part of the table gets the number beside it, and each year its months, by computation.
-- Assumes nothing.
use mathlib.Core.Path.{refl}
use Rattle.text.specs.Bytes.{bytes}
use Rattle.text.specs.Classes.{all_in, in_class, is_digit, is_between}
use Rattle.digits.specs.Numerals.{wide_number, number_of, numeral, numeral_from}
use Rattle.calendar.specs.Dates.{year, month, day, leap, is_month, february, is_long, month_length, is_date, is_time, is_moment, date_from, date_read, date_number, moment_of, moment_from, moment_read, moment_number}
use Rattle.calendar.specs.Cases.{cases, Answered, months, months_of, Tabled}

pub answered : Answered
unfolding cases bytes all_in in_class is_digit is_between wide_number number_of numeral numeral_from year month day leap is_month february is_long month_length is_date is_time is_moment date_from date_read date_number moment_of moment_from moment_read moment_number
answered = refl

pub tabled : Tabled
unfolding months months_of leap is_month february is_long month_length
tabled = refl
