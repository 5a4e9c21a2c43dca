-- Each record has the lines beside it, and each write its answer, by computation.
-- Assumes nothing.
use mathlib.Core.Path.{refl}
use Rattle.message.specs.Cases.{broadest, messages, writes, Answered}
use Rattle.format.specs.Format.{optional}
use Rattle.format.specs.Writing.{behind_in, head_line, lines_for, message_of, judge_of, write_number, write_length}
use Rattle.forms.specs.Forms.{unless, form_number}
use Rattle.reason.specs.Reason.{reason_text, reason_form}
use Rattle.typed.specs.Sides.{side_word}
use Rattle.values.specs.Values.{kind_word, service_word, period_text, narrative, values, value_of}
use Rattle.format.specs.Writable.{fitted, hold}
use Rattle.values.specs.Writable.{period_form, tests, in_form}
use Rattle.typed.specs.Prep.{prep_form}
use Rattle.table.specs.Table.{slots, header, slot_of}
use Rattle.table.specs.Tree.{general, pool, details, tree}
use Rattle.sheets.specs.Slots.{field_slots, own_slots, member_slots, slots_of, first_slots, must_slots}
use Rattle.sheets.specs.Sheets.{line_of, lines_in, has}
use Rattle.sheets.specs.Filled.{some, any_field, any_member, any_in, filled_fields, filled_members, filled}
use Rattle.values.specs.Cases.{b}
use Rattle.trade.specs.Records.{nobody, never, blank_trade}
use Rattle.lines.specs.Lines.{joined}
use Rattle.lines.specs.Verdicts.{refused, pass, then, when}
use Rattle.kinds.specs.Kinds.{other, own, contra, stray, function_of, lacks_field, tddk_only, tddk_never, has_forbidden, record_pass}
use Rattle.calendar.specs.Dates.{year, month, day, leap, is_month, february, is_long, month_length, is_date, is_time, earlier, is_moment, date_text, moment_text}
use Rattle.amount.specs.Amounts.{whole, decimals, trimmed, kept_before, shortened, tidy, in_form as in_form-amounts, spread, amount_text}
use Rattle.digits.specs.Numerals.{digits, ten_to}
use Rattle.text.specs.Bytes.{bytes, before}
use Rattle.text.specs.Classes.{is_between, is_digit, is_upper, is_c, in_class, all_in, is_code}
use Rattle.text.specs.Texts.{contents, text_of, in_form as in_form-texts, padded_of}

pub answered : Answered
unfolding b broadest messages writes nobody never blank_trade joined behind_in head_line lines_for message_of write_number write_length kind_word side_word service_word period_text reason_text narrative values value_of optional slots_of member_slots own_slots field_slots must_slots first_slots has prep_form period_form reason_form tests hold in_form judge_of slots header slot_of general pool details tree line_of lines_in some any_field any_member any_in filled_fields filled_members filled refused pass then other own contra stray function_of lacks_field tddk_only tddk_never has_forbidden when record_pass year month day leap is_month february is_long month_length is_date is_time earlier is_moment date_text moment_text whole decimals trimmed kept_before shortened tidy in_form-amounts spread amount_text digits ten_to bytes before is_between is_digit is_upper is_c in_class all_in contents padded_of in_form-texts fitted is_code unless form_number
answered = (refl, refl, refl)
