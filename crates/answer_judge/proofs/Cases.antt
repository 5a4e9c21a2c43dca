-- Each record of the table gets the number beside it, by computation.
-- Assumes nothing.
use mathlib.Core.Path.{refl}
use Rattle.text.specs.Bytes.{bytes, begins, same}
use Rattle.text.specs.Classes.{is_between, is_digit, is_upper, is_c, is_hyphened, in_class, all_in, is_code}
use Rattle.text.specs.Texts.{contents, text_of, in_form_of, in_form as text_form, padded_of}
use Rattle.remark.specs.Remarks.{contents as remark_text, remark_of, in_form as remark_form}
use Rattle.calendar.specs.Dates.{year, month, day, leap, is_month, february, is_long, month_length, is_date, is_time, is_moment}
use Rattle.lines.specs.Verdicts.{refused, pass, then, when}
use Rattle.forms.specs.Forms.{word_at, is_word, unless, form_number}
use Rattle.typed.specs.Prep.{prep_form}
use Rattle.sheets.specs.Trees.{chain}
use Rattle.sheets.specs.Notation.{repeated}
use Rattle.sheets.specs.Slots.{field_slots, own_slots, member_slots, slots_of, first_slots, must_slots}
use Rattle.sheets.specs.Sheets.{has}
use Rattle.format.specs.Writable.{fitted, fitted_in, hold}
use Rattle.format.specs.Writing.{judge_of}
use Rattle.status.specs.Statuses.{statuses, status_of, status_text, status_form}
use Rattle.answer.specs.Records.{no_reason, never, blank_answer, reason_at}
use Rattle.answer.specs.Cases.{r}
use Rattle.answer_rules.specs.Rules.{is_reject, has_reason, lacks_reason, has_forbidden, record_pass}
use Rattle.answer_table.specs.Table.{slots, slot_of}
use Rattle.answer_table.specs.Tree.{reasons, status, general, tree}
use Rattle.answer_values.specs.Writable.{stands, reason_tests, tests, in_form}
use Rattle.answer_judge.specs.Cases.{ruled, told, widest, cases, Answered}

pub answered : Answered
unfolding bytes begins same is_between is_digit is_upper is_c is_hyphened in_class all_in is_code contents padded_of in_form_of text_form year month day leap is_month february is_long month_length is_date is_time is_moment refused pass then when word_at is_word unless form_number prep_form chain repeated field_slots own_slots member_slots slots_of first_slots must_slots has fitted fitted_in hold judge_of statuses status_of status_text status_form no_reason never blank_answer reason_at r is_reject has_reason lacks_reason has_forbidden record_pass slots slot_of reasons status general tree stands reason_tests tests in_form ruled told widest cases
answered = refl
