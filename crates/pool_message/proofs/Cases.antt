-- P's record has the lines beside it, each of the widest its length, and each write its answer, by computation.
-- Assumes nothing.
use mathlib.Core.Path.{refl}
use Rattle.text.specs.Bytes.{bytes, before}
use Rattle.text.specs.Classes.{is_between, is_digit, is_upper, is_c, in_class, all_in, is_code}
use Rattle.text.specs.Texts.{contents, text_of, in_form as in_form-texts, padded_of}
use Rattle.digits.specs.Numerals.{digits, ten_to}
use Rattle.amount.specs.Amounts.{whole, decimals, trimmed, kept_before, shortened, tidy, in_form as in_form-amounts, spread, amount_text}
use Rattle.calendar.specs.Dates.{year, month, day, leap, is_month, february, is_long, month_length, is_date, is_time, earlier, is_moment, date_text, moment_text}
use Rattle.reason.specs.Reason.{reason_text, reason_form}
use Rattle.lines.specs.Lines.{joined}
use Rattle.lines.specs.Verdicts.{refused, pass, then, when}
use Rattle.forms.specs.Forms.{unless, form_number}
use Rattle.typed.specs.Payments.{payment_text, payment_form}
use Rattle.typed.specs.Sides.{side_word}
use Rattle.sheets.specs.Slots.{field_slots, own_slots, member_slots, slots_of, first_slots, must_slots}
use Rattle.sheets.specs.Sheets.{line_of, lines_in, has}
use Rattle.sheets.specs.Filled.{some, any_field, any_member, any_in, filled_fields, filled_members, filled}
use Rattle.format.specs.Format.{optional}
use Rattle.format.specs.Writable.{fitted, hold}
use Rattle.format.specs.Writing.{behind_in, head_line, lines_for, message_of, judge_of, write_number, write_length}
use Rattle.pool_trade.specs.Records.{nobody, blank_trade}
use Rattle.pool_kinds.specs.Kinds.{other, own, contra, stray, function_of, needs, there, some_of, lacks_field, has_forbidden, record_pass}
use Rattle.pool_table.specs.Table.{slots, header, slot_of}
use Rattle.pool_table.specs.Tree.{general, security, details, tree}
use Rattle.pool_values.specs.Values.{kind_word, cdr_text, delivery_text, narrative, values, value_of}
use Rattle.pool_values.specs.Writable.{delivery_form, tests, in_form}
use Rattle.pool_values.specs.Cases.{p}
use Rattle.pool_message.specs.Cases.{broad, broadest, widest, lines_of_p, writes, Answered}

pub answered : Answered
unfolding bytes before is_between is_digit is_upper is_c in_class all_in is_code contents padded_of in_form-texts digits ten_to whole decimals trimmed kept_before shortened tidy in_form-amounts spread amount_text year month day leap is_month february is_long month_length is_date is_time earlier is_moment date_text moment_text reason_text reason_form joined refused pass then when unless form_number payment_text payment_form side_word field_slots own_slots member_slots slots_of first_slots must_slots line_of lines_in has some any_field any_member any_in filled_fields filled_members filled optional fitted hold behind_in head_line lines_for message_of judge_of write_number write_length nobody blank_trade other own contra stray function_of needs there some_of lacks_field has_forbidden record_pass slots header slot_of general security details tree kind_word cdr_text delivery_text narrative values value_of delivery_form tests in_form p broad broadest widest lines_of_p writes
answered = record { lines = refl; judged = refl; lengths = refl; numbers = refl; written = refl }
