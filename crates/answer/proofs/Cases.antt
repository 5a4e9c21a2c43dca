-- The values of the tables are held as what stands beside them, by computation.
-- Assumes nothing.
use mathlib.Core.Path.{refl}
use Rattle.text.specs.Bytes.{bytes, same}
use Rattle.text.specs.Classes.{all_in, in_class, is_digit, is_between}
use Rattle.text.specs.Texts.{text_of, padded_of}
use Rattle.remark.specs.Remarks.{remark_of}
use Rattle.digits.specs.Numerals.{numeral_from, numeral, number_of, wide_number}
use Rattle.calendar.specs.Dates.{year, month, day, leap, february, is_month, month_length, is_date, is_time, is_moment, moment_of, moment_read, moment_from}
use Rattle.forms.specs.Forms.{word_at, is_word}
use Rattle.status.specs.Statuses.{statuses, status_of}
use Rattle.answer.specs.Records.{reason_of, reasons_of, answer_of, no_reason}
use Rattle.answer.specs.Cases.{value_in, filled, r, told, Answered}

pub answered : Answered
unfolding bytes same all_in in_class is_digit is_between padded_of numeral_from numeral number_of wide_number year month day leap february is_month month_length is_date is_time is_moment moment_of moment_read moment_from word_at is_word statuses status_of reason_of reasons_of answer_of no_reason value_in filled r told
answered = (refl, refl, refl)
