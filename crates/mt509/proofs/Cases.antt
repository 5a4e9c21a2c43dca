-- R and what is done to it get what the table says, by computation.
-- Assumes nothing.
use mathlib.Core.Path.{refl}
use Rattle.format.specs.Reading as AnyType
use Rattle.format.specs.Plain.{tidy_behind, tidy_line, plain_lines, plain_of}
use Rattle.format.specs.Changes.{ended, without, with, behind, exchanged}
use Rattle.reader.specs.Header.{head_verdict, head_pass, head_value}
use Rattle.bars.specs.Bars.{any_front, goes_on, strays, stops, bar_number}
use Rattle.sheets.specs.Trees.{chain, lead_key}
use Rattle.sheets.specs.Notation.{repeated}
use Rattle.sheets.specs.Sheets.{has, lacking}
use Rattle.sheets.specs.Taking.{fit, next, seek, later_field, tell, move_of, following, walk, taken_by}
use Rattle.sheets.specs.Plain.{ahead, through, first_begins, block_with, blocks_with, any_line, past, arranged, in_order}
use Rattle.mt509.specs.Cases as Cases
use Rattle.mt509.specs.Cases.{r, removed, moved, cases, Answered}
use Rattle.answer_values.specs.Mt509.{links}
use Rattle.answer_table.specs.Table.{slots, header, slot_of}
use Rattle.answer_table.specs.Tree.{reasons, status, general, tree}
use Rattle.walk.specs.Walk.{body_pass, taken_in, value_verdict, values_pass, value_from}
use Rattle.lines.specs.Lines.{in_front, cut_behind, bare, without_ending, lines_of, ended as ended-lines, joined, size_pass, may_stand, byte_pass, end_pass, lines_pass, line_at}
use Rattle.lines.specs.Verdicts.{refused, pass, then, when}
use Rattle.blocks.specs.Blocks.{is_tagged, name_of, named, role_of, ending, opening, closing, turn, follow, nest, nest_pass}
use Rattle.layout.specs.Layout.{with_taken}
use Rattle.forms.specs.Forms.{word_at, is_word, unless, form_number, value_number}
use Rattle.status.specs.Statuses.{statuses, status_of, status_text}
use Rattle.remark.specs.Remarks.{remark_of}
use Rattle.answer.specs.Records.{reason_of, reasons_of, answer_of, no_reason, never, blank_answer, reason_at}
use Rattle.answer.specs.Cases.{r as answer_of_r}
use Rattle.answer_rules.specs.Rules.{of_cancel, goes_with, is_reject, has_reason, lacks_reason, has_forbidden, record_pass, answer_pass}
use Rattle.calendar.specs.Dates.{year, month, day, leap, is_month, february, is_long, month_length, is_date, is_time, is_moment, date_from, date_read, moment_of, moment_from, moment_read}
use Rattle.digits.specs.Numerals.{numeral_from, numeral, number_of, wide_number, ten_to}
use Rattle.text.specs.Bytes.{bytes, begins, same, before, parts}
use Rattle.text.specs.Classes.{is_between, is_digit, is_upper, is_c, is_hyphened, in_class, all_in, is_code, printed_class}
use Rattle.text.specs.Texts.{text_of, padded_of}

pub answered : Answered
unfolding AnyType.reading AnyType.body_of AnyType.value_on AnyType.rules_of AnyType.verdict_of AnyType.read_of head_verdict head_pass head_value any_front goes_on strays stops bar_number chain lead_key repeated body_pass taken_in r removed moved Cases.reasons ended without with behind exchanged cases answer_of_r reasons status general tree slots header slot_of value_verdict values_pass value_from in_front cut_behind bare without_ending lines_of ended-lines joined size_pass may_stand byte_pass end_pass lines_pass line_at refused pass then when is_tagged name_of named role_of ending opening closing turn follow nest nest_pass with_taken fit next seek later_field tell move_of following walk taken_by has lacking is_code word_at is_word unless form_number value_number statuses status_of status_text padded_of reason_of reasons_of answer_of no_reason never blank_answer reason_at of_cancel goes_with is_reject has_reason lacks_reason has_forbidden record_pass answer_pass year month day leap is_month february is_long month_length is_date is_time is_moment date_from date_read moment_of moment_from moment_read numeral_from numeral number_of wide_number ten_to bytes begins same before parts is_between is_digit is_upper is_c is_hyphened in_class all_in printed_class tidy_behind tidy_line plain_lines plain_of ahead through first_begins block_with blocks_with any_line past arranged in_order links
answered = record { verdicts = refl; endings = refl; lengths = refl; plain = refl }
