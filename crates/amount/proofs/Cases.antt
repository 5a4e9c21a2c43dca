-- Each text of the table is read and written as it says, by computation.
-- Assumes nothing.
use mathlib.Core.Path.{refl}
use Rattle.text.specs.Bytes.{bytes, before}
use Rattle.text.specs.Classes.{all_in, in_class, is_digit, is_between}
use Rattle.digits.specs.Numerals.{numeral, numeral_from, digits}
use Rattle.amount.specs.Amounts.{whole, decimals, is_amount, trimmed, kept_before, shortened, tidy, meaning_of, meaning, amount_read, in_form, spread, amount_text}
use Rattle.amount.specs.Cases.{cases, Answered}

pub answered : Answered
unfolding cases bytes before all_in in_class is_digit is_between numeral numeral_from digits whole decimals is_amount trimmed kept_before shortened tidy meaning_of meaning amount_read in_form spread amount_text
answered = (refl, refl, refl, refl)
