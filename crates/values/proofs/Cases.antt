-- Each record of the table has the values beside it, by computation.
-- Assumes nothing.
use mathlib.Core.Path.{refl}
use Rattle.text.specs.Bytes.{bytes, before}
use Rattle.text.specs.Texts.{contents, text_of, padded_of}
use Rattle.digits.specs.Numerals.{digits}
use Rattle.amount.specs.Amounts.{whole, decimals, trimmed, kept_before, shortened, tidy, in_form, spread, amount_text}
use Rattle.calendar.specs.Dates.{year, month, day, leap, is_month, february, is_long, month_length, is_date, is_time, is_moment, date_text, moment_text}
use Rattle.reason.specs.Reason.{reason_text}
use Rattle.kinds.specs.Kinds.{function_of}
use Rattle.typed.specs.Sides.{side_word}
use Rattle.values.specs.Values.{kind_word, service_word, period_text, narrative, values}
use Rattle.values.specs.Cases.{b, full, cases, Answered}

pub answered : Answered
unfolding b full cases bytes before contents padded_of digits whole decimals trimmed kept_before shortened tidy in_form spread amount_text year month day leap is_month february is_long month_length is_date is_time is_moment date_text moment_text function_of kind_word side_word service_word period_text reason_text narrative values
answered = refl
