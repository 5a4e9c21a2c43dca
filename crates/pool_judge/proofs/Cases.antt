-- Each record of the table gets the number beside it, by computation.
-- Assumes nothing.
use mathlib.Core.Path.{refl}
use Rattle.text.specs.Bytes.{bytes}
use Rattle.text.specs.Classes.{is_between, is_digit, is_upper, is_c, in_class, all_in, is_code}
use Rattle.text.specs.Texts.{contents, text_of, in_form as text_form, padded_of}
use Rattle.amount.specs.Amounts.{in_form as amount_form}
use Rattle.calendar.specs.Dates.{year, month, day, leap, is_month, february, is_long, month_length, is_date, is_time, is_moment, earlier, date_text}
use Rattle.digits.specs.Numerals.{digits}
use Rattle.lines.specs.Verdicts.{refused, pass, then, when}
use Rattle.reason.specs.Reason.{reason_text, reason_form}
use Rattle.forms.specs.Forms.{unless, form_number}
use Rattle.typed.specs.Payments.{payment_form}
use Rattle.sheets.specs.Slots.{field_slots, own_slots, member_slots, slots_of, first_slots, must_slots}
use Rattle.sheets.specs.Sheets.{has}
use Rattle.pool_trade.specs.Records.{nobody, blank_trade}
use Rattle.pool_kinds.specs.Kinds.{other, own, contra, stray, needs, there, some_of, lacks_field, has_forbidden, record_pass}
use Rattle.pool_table.specs.Table.{slots, slot_of}
use Rattle.pool_table.specs.Tree.{general, security, details, tree}
use Rattle.pool_values.specs.Values.{cdr_text, delivery_text, narrative, values, value_of}
use Rattle.format.specs.Writable.{fitted, hold}
use Rattle.pool_values.specs.Writable.{delivery_form, tests, in_form}
use Rattle.pool_values.specs.Cases.{p}
use Rattle.format.specs.Writing.{judge_of}
use Rattle.pool_judge.specs.Cases.{trade, cases, Answered}

pub answered : Answered
unfolding p trade cases bytes is_between is_digit is_upper is_c in_class all_in is_code contents padded_of text_form amount_form year month day leap is_month february is_long month_length is_date is_time is_moment earlier date_text digits refused pass then when reason_text reason_form unless form_number payment_form field_slots own_slots member_slots slots_of first_slots must_slots has nobody blank_trade other own contra stray needs there some_of lacks_field has_forbidden record_pass slots slot_of general security details tree cdr_text delivery_text narrative values value_of fitted hold delivery_form tests in_form judge_of
answered = refl
