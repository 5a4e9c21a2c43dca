-- Each text of the tables gets what stands beside it, by computation.
-- Assumes nothing.
use mathlib.Core.Path.{refl}
use Rattle.text.specs.Bytes.{bytes, begins, same, before}
use Rattle.text.specs.Classes.{all_in, in_class, is_c, is_hyphened, is_upper, is_digit, is_between, is_code}
use Rattle.digits.specs.Numerals.{wide_number, number_of, numeral, numeral_from}
use Rattle.calendar.specs.Dates.{year, month, day, leap, is_month, february, is_long, month_length, is_date, date_from, date_read}
use Rattle.reason.specs.Reason.{has_reason, reason_in, good_reason}
use Rattle.forms.specs.Words.{word_at, is_word}
use Rattle.forms.specs.Narrative.{service_in, has_period, period_in, behind_period, good_period, is_narrative}
use Rattle.forms.specs.Pool.{has_cdr, behind_cdr, has_delivery, delivery_in, behind_delivery, is_pool_shape, pool_number}
use Rattle.forms.specs.Forms.{unless, form_number, value_number}
use Rattle.forms.specs.Slots.{reaches, line_in, text_in, words_in, form_of, form_in, slot_at}
use Rattle.forms.specs.Cases.{cases, Answered}
use Rattle.forms.specs.PoolCases as Pool
use Rattle.forms.specs.CharacterCases as Characters
use Rattle.forms.specs.Samples.{sample, values, Held}

pub answered : Answered
unfolding cases bytes begins same all_in in_class is_c is_upper is_digit is_between is_code word_at is_word service_in has_period period_in behind_period has_reason reason_in good_period good_reason is_narrative
answered = refl

pub pool-answered : Pool.Answered
unfolding Pool.cases bytes begins before all_in in_class is_c is_upper is_digit is_between is_code has_reason reason_in good_reason has_cdr behind_cdr has_delivery delivery_in behind_delivery is_pool_shape pool_number wide_number number_of numeral numeral_from date_read date_from is_date year month day leap is_month february is_long month_length
pool-answered = refl

pub characters-answered : Characters.Answered
unfolding Characters.cases bytes all_in in_class is_c is_hyphened is_upper is_digit is_between unless form_number form_of
characters-answered = record { hyphens = refl; prints = refl; below = refl; behind = refl; unnumbered = refl }

pub held : Held
unfolding sample values bytes begins same is_code word_at is_word unless form_number value_number reaches line_in text_in words_in form_of form_in slot_at
held = record { numbers = refl; places = refl; bare = refl; unreached = refl; empty = refl }
