-- R's record has the lines beside it, and each write its answer, by computation.
-- Assumes nothing.
use mathlib.Core.Path.{refl}
use Rattle.text.specs.Bytes.{bytes, begins, same, before}
use Rattle.text.specs.Classes.{is_between, is_digit, is_upper, is_c, is_hyphened, in_class, all_in, is_code}
use Rattle.text.specs.Texts.{contents, text_of, in_form_of, in_form as text_form, padded_of}
use Rattle.remark.specs.Remarks.{remark_of, contents as remark_text, in_form as remark_form}
use Rattle.digits.specs.Numerals.{digits, ten_to}
use Rattle.calendar.specs.Dates.{year, month, day, leap, is_month, february, is_long, month_length, is_date, is_time, is_moment, moment_text}
use Rattle.typed.specs.Prep.{prep_form}
use Rattle.lines.specs.Lines.{joined}
use Rattle.lines.specs.Verdicts.{refused, pass, then, when}
use Rattle.forms.specs.Forms.{word_at, is_word, unless, form_number}
use Rattle.sheets.specs.Trees.{chain}
use Rattle.sheets.specs.Notation.{repeated}
use Rattle.sheets.specs.Slots.{field_slots, own_slots, member_slots, slots_of, first_slots, must_slots}
use Rattle.sheets.specs.Sheets.{line_of, lines_in, has}
use Rattle.sheets.specs.Filled.{some, any_field, any_member, any_in, filled_fields, filled_members, filled}
use Rattle.format.specs.Format.{optional}
use Rattle.format.specs.Writable.{fitted, fitted_in, hold}
use Rattle.format.specs.Writing.{behind_in, head_line, lines_for, message_of, judge_of, write_number, write_length}
use Rattle.status.specs.Statuses.{statuses, status_of, status_text, status_form}
use Rattle.answer.specs.Records.{no_reason, never, blank_answer, reason_at}
use Rattle.answer.specs.Cases.{r}
use Rattle.answer_rules.specs.Rules.{of_cancel, is_reject, has_reason, lacks_reason, has_forbidden, record_pass, function_of}
use Rattle.answer_table.specs.Table.{slots, header, slot_of}
use Rattle.answer_table.specs.Tree.{reasons, status, general, tree}
use Rattle.answer_values.specs.Values.{reason_values, values, value_of}
use Rattle.answer_values.specs.Writable.{stands, reason_tests, tests, in_form}
use Rattle.answer_judge.specs.Cases.{ruled, told, widest}
use Rattle.mt509.specs.WritingCases.{lines_of_r, writes, Answered}

pub answered : Answered
unfolding bytes begins same before is_between is_digit is_upper is_c is_hyphened in_class all_in is_code contents padded_of text_form in_form_of digits ten_to year month day leap is_month february is_long month_length is_date is_time is_moment moment_text prep_form joined refused pass then when word_at is_word unless form_number field_slots own_slots member_slots slots_of first_slots must_slots line_of lines_in has some any_field any_member any_in filled_fields filled_members filled chain repeated optional fitted fitted_in hold behind_in head_line lines_for message_of judge_of write_number write_length no_reason never blank_answer reason_at r statuses status_of status_text status_form of_cancel is_reject has_reason lacks_reason has_forbidden record_pass function_of slots header slot_of reasons status general tree reason_values values value_of stands reason_tests tests in_form ruled told widest lines_of_r writes
answered = record { lines = refl; numbers = refl; written = refl }
