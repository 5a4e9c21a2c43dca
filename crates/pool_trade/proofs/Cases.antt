-- Each text of the table means what stands beside it, by computation.
-- Assumes nothing.
use mathlib.Core.Path.{refl}
use Rattle.text.specs.Bytes.{bytes, begins, before}
use Rattle.text.specs.Texts.{text_of, padded_of}
use Rattle.text.specs.Classes.{all_in, in_class, is_digit, is_between}
use Rattle.digits.specs.Numerals.{wide_number, number_of, numeral, numeral_from}
use Rattle.calendar.specs.Dates.{date_read, date_from, is_date, year, month, day, is_month, february, is_long, month_length}
use Rattle.reason.specs.Reason.{has_reason, reason_in}
use Rattle.forms.specs.Pool.{has_cdr, behind_cdr, has_delivery, delivery_in, behind_delivery}
use Rattle.pool_trade.specs.Narrative.{delivery_of, reason_of}
use Rattle.pool_trade.specs.Cases.{told, Answered}

pub answered : Answered
unfolding told bytes begins before padded_of all_in in_class is_digit is_between wide_number number_of numeral numeral_from date_read date_from is_date year month day is_month february is_long month_length has_reason reason_in has_cdr behind_cdr has_delivery delivery_in behind_delivery delivery_of reason_of
answered = record { cdrs = refl; deliveries = refl; reasons = refl }
