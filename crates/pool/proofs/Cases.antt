-- P and the messages beside it get what the table says, by computation.
-- Assumes nothing.
use mathlib.Core.Path.{refl}
use Rattle.format.specs.Reading as AnyType
use Rattle.format.specs.Plain.{tidy_behind, tidy_line, plain_lines, plain_of}
use Rattle.format.specs.Changes.{ended, without, with, behind, exchanged}
use Rattle.reader.specs.Header.{head_verdict, head_pass, head_value}
use Rattle.sheets.specs.Trees.{chain}
use Rattle.sheets.specs.Sheets.{has, lacking}
use Rattle.sheets.specs.Taking.{fit, next, seek, later_field, tell, move_of, following, walk, taken_by}
use Rattle.sheets.specs.Plain.{ahead, through, first_begins, block_with, blocks_with, any_line, past, arranged, in_order}
use Rattle.pool.specs.Cases.{p, ours, cases, Answered}
use Rattle.pool_values.specs.Cases.{p as trade_of_p}
use Rattle.pool_values.specs.Pool.{links, parties, fronts}
use Rattle.pool_table.specs.Table.{slots, header, slot_of}
use Rattle.pool_table.specs.Tree.{general, security, details, tree}
use Rattle.walk.specs.Walk.{body_pass, taken_in, value_verdict, values_pass, value_from}
use Rattle.lines.specs.Lines.{in_front, cut_behind, bare, without_ending, lines_of, ended as ended-lines, joined, size_pass, may_stand, byte_pass, end_pass, lines_pass, line_at}
use Rattle.lines.specs.Verdicts.{refused, pass, then, when}
use Rattle.blocks.specs.Blocks.{is_tagged, name_of, named, role_of, ending, opening, closing, turn, follow, nest, nest_pass}
use Rattle.layout.specs.Layout.{with_taken}
use Rattle.forms.specs.Forms.{word_at, is_word, unless, form_number, value_number}
use Rattle.forms.specs.Pool.{has_cdr, behind_cdr, has_delivery, delivery_in, behind_delivery, is_pool_shape, pool_number}
use Rattle.reason.specs.Reason.{has_reason, reason_in, good_reason}
use Rattle.typed.specs.Payments.{payment_in}
use Rattle.typed.specs.Sides.{side_in}
use Rattle.pool_trade.specs.Narrative.{delivery_of, reason_of}
use Rattle.pool_trade.specs.Records.{kind_in, party_of, trade_of, nobody, blank_trade}
use Rattle.pool_kinds.specs.Kinds.{other, own, contra, stray, function_of, needs, there, some_of, lacks_field, has_forbidden, record_pass, kinds_pass}
use Rattle.calendar.specs.Dates.{year, month, day, leap, is_month, february, is_long, month_length, is_date, is_time, earlier, is_moment, date_from, date_read, moment_of, moment_from, moment_read}
use Rattle.amount.specs.Amounts.{whole, decimals, is_amount, trimmed, kept_before, shortened, tidy, meaning_of, meaning, amount_read, parts_read, noughts}
use Rattle.digits.specs.Numerals.{numeral_from, numeral, number_of, wide_number, ten_to}
use Rattle.text.specs.Bytes.{bytes, begins, same, before}
use Rattle.text.specs.Classes.{is_between, is_digit, is_upper, is_c, in_class, all_in, is_code}
use Rattle.text.specs.Texts.{text_of, padded_of}

pub answered : Answered
unfolding AnyType.reading AnyType.body_of AnyType.value_on AnyType.rules_of AnyType.verdict_of AnyType.read_of head_verdict head_pass head_value body_pass taken_in p ours ended without with behind exchanged cases trade_of_p general security details tree slots header slot_of value_verdict values_pass value_from in_front cut_behind bare without_ending lines_of ended-lines joined size_pass may_stand byte_pass end_pass lines_pass line_at refused pass then when is_tagged name_of named role_of ending opening closing turn follow nest nest_pass with_taken fit next seek later_field tell move_of following walk taken_by chain has lacking is_code word_at is_word unless form_number value_number has_cdr behind_cdr has_delivery delivery_in behind_delivery is_pool_shape pool_number has_reason reason_in good_reason payment_in side_in delivery_of reason_of kind_in party_of trade_of nobody blank_trade other own contra stray function_of needs there some_of lacks_field has_forbidden record_pass kinds_pass year month day leap is_month february is_long month_length is_date is_time earlier is_moment date_from date_read moment_of moment_from moment_read whole decimals is_amount trimmed kept_before shortened tidy meaning_of meaning amount_read parts_read noughts numeral_from numeral number_of wide_number ten_to bytes begins same before is_between is_digit is_upper is_c in_class all_in padded_of tidy_behind tidy_line plain_lines plain_of ahead through first_begins block_with blocks_with any_line past arranged in_order links parties fronts
answered = record { verdicts = refl; endings = refl; tidied = refl; lengths = (refl, refl) }
