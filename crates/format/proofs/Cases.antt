-- The specimen's records, messages and refusals are what the tables say, by computation.
-- Assumes nothing.
use mathlib.Core.Path.{refl}
use Rattle.text.specs.Bytes.{bytes, begins, same, before}
use Rattle.text.specs.Classes.{is_between, is_digit, is_upper, is_c, in_class, all_in, is_code}
use Rattle.lines.specs.Lines.{in_front, cut_behind, bare, without_ending, lines_of, ended, joined, size_pass, may_stand, byte_pass, end_pass, lines_pass}
use Rattle.lines.specs.Verdicts.{refused, pass, then, when}
use Rattle.amount.specs.Amounts as Amounts
use Rattle.digits.specs.Numerals.{numeral_from, numeral}
use Rattle.blocks.specs.Blocks.{is_tagged, name_of, named, role_of, ending, opening, closing, turn, follow, nest, nest_pass}
use Rattle.forms.specs.Forms.{word_at, is_word, unless, form_number, value_number}
use Rattle.layout.specs.Layout.{with_taken}
use Rattle.sheets.specs.Trees.{chain}
use Rattle.sheets.specs.Slots.{field_slots, own_slots, member_slots, slots_of, first_slots, must_slots}
use Rattle.sheets.specs.Sheets.{line_of, lines_in, has, lacking}
use Rattle.sheets.specs.Taking.{fit, next, seek, later_field, tell, move_of, following, walk, taken_by}
use Rattle.sheets.specs.Filled.{some, any_field, any_member, any_in, filled_fields, filled_members, filled}
use Rattle.walk.specs.Walk.{value_verdict, values_pass, body_pass, taken_in, value_from}
use Rattle.reader.specs.Header.{head_verdict, head_pass, head_value}
use Rattle.format.specs.Format.{every, optional}
use Rattle.format.specs.Reading.{reading, body_of, value_on, rules_of, verdict_of, read_of}
use Rattle.format.specs.Writing.{behind_in, head_line, lines_for, message_of, judge_of}
use Rattle.format.specs.Plain.{tidied}
use Rattle.format.specs.Specimen as Specimen
use Rattle.format.specs.Cases.{records, outside, refusals, Answered}

pub answered : Answered
unfolding bytes begins same before is_between is_digit is_upper is_c in_class all_in in_front cut_behind bare without_ending lines_of ended joined size_pass may_stand byte_pass end_pass lines_pass refused pass then when Amounts.whole Amounts.decimals Amounts.is_amount Amounts.trimmed Amounts.kept_before Amounts.shortened Amounts.tidy Amounts.meaning_of Amounts.meaning Amounts.amount_read numeral_from numeral is_tagged name_of named role_of ending opening closing turn follow nest nest_pass is_code word_at is_word unless form_number value_number with_taken fit next seek later_field tell move_of following walk taken_by chain lacking field_slots own_slots member_slots slots_of first_slots must_slots line_of lines_in has some any_field any_member any_in filled_fields filled_members filled value_verdict values_pass body_pass taken_in value_from head_verdict head_pass head_value every optional reading body_of value_on rules_of verdict_of read_of behind_in head_line lines_for message_of judge_of tidied Specimen.slots Specimen.slot_of Specimen.header Specimen.general Specimen.commission Specimen.settlement Specimen.status Specimen.tree Specimen.named Specimen.record_of Specimen.beside Specimen.value_of Specimen.alike Specimen.is_filled Specimen.together Specimen.in_form records outside refusals
answered =
    record {
      in-form = refl;
      lines_are = refl;
      read_back = refl;
      out-of-form = refl;
      refused-are = refl;
    }
