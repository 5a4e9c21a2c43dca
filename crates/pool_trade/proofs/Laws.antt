-- What callers cite: a message without values is held as the blank record.
-- Assumes nothing.
use mathlib.Core.Path.{◌≡◌, refl}
use mathlib.Core.List.{[]}
use Rattle.text.specs.Bytes.{bytes, begins, same, before}
use Rattle.text.specs.Texts.{text_of, padded_of}
use Rattle.text.specs.Classes.{all_in}
use Rattle.digits.specs.Numerals.{wide_number}
use Rattle.amount.specs.Amounts.{amount_read, is_amount, whole}
use Rattle.calendar.specs.Dates.{date_read, date_from, moment_read, moment_from}
use Rattle.reason.specs.Reason.{has_reason, reason_in}
use Rattle.forms.specs.Forms.{word_at}
use Rattle.forms.specs.Pool.{has_cdr, behind_cdr, has_delivery, behind_delivery}
use Rattle.typed.specs.Sides.{side_in}
use Rattle.typed.specs.Payments.{payment_in}
use Rattle.pool_trade.specs.Narrative.{delivery_of, reason_of}
use Rattle.pool_trade.specs.Records.{kind_in, party_of, trade_of, nobody, blank_trade}

pub blank-is : trade_of (λ slot. []) ≡ blank_trade
unfolding bytes begins same before padded_of all_in wide_number amount_read is_amount whole date_read date_from moment_read moment_from word_at has_cdr behind_cdr has_delivery behind_delivery has_reason reason_in delivery_of reason_of kind_in side_in payment_in party_of trade_of nobody blank_trade
blank-is = refl
