-- B and its neighbours get what the table says, by computation.
-- Assumes nothing.
use Prim.Native.Nat.{ℕ}
use mathlib.Core.Path.{◌≡◌, refl, sym, ap, ◌∙◌}
use mathlib.Core.Bool.{false}
use lib.Dec.{eqb}
use lib.ListN.{get_or}
use borrow.Author.Tests.{eqb-false}
use Rattle.format.specs.Reading as AnyType
use Rattle.reader.specs.Header.{head_verdict, head_pass, head_value}
use Rattle.sheets.specs.Trees.{chain}
use Rattle.sheets.specs.Sheets.{has, lacking}
use Rattle.sheets.specs.Taking.{fit, next, seek, later_field, tell, move_of, following, walk, taken_by}
use Rattle.format.specs.Changes.{ended, without, with, behind, exchanged}
use Rattle.mt515.specs.Cases.{b, cases, Unlike, AllUnlike, Answered}
use Rattle.values.specs.Cases.{b as trade_of_b}
use Rattle.table.specs.Table.{slots, header, slot_of}
use Rattle.table.specs.Tree.{general, pool, details, tree}
use Rattle.walk.specs.Walk.{body_pass, taken_in, value_verdict, values_pass, value_from}
use Rattle.lines.specs.Lines.{in_front, cut_behind, bare, without_ending, lines_of, ended as ended-lines, size_pass, may_stand, byte_pass, end_pass, lines_pass, line_at}
use Rattle.lines.specs.Verdicts.{refused, pass, then, when}
use Rattle.blocks.specs.Blocks.{is_tagged, name_of, named, role_of, ending, opening, closing, turn, follow, nest, nest_pass}
use Rattle.layout.specs.Layout.{with_taken}
use Rattle.forms.specs.Forms.{word_at, is_word, unless, form_number, value_number}
use Rattle.reason.specs.Reason.{has_reason, reason_in, good_reason}
use Rattle.forms.specs.Narrative.{service_in, has_period, period_in, behind_period, good_period, is_narrative}
use Rattle.trade.specs.Narrative.{service_of, period_of}
use Rattle.typed.specs.Sides.{side_in}
use Rattle.trade.specs.Records.{kind_in, party_of, trade_of, nobody, never, blank_trade}
use Rattle.trade.specs.declared.Trade.{Trade}
use Rattle.kinds.specs.Kinds.{other, own, contra, stray, function_of, lacks_field, tddk_only, tddk_never, has_forbidden, record_pass, kinds_pass}
use Rattle.calendar.specs.Dates.{year, month, day, leap, is_month, february, is_long, month_length, is_date, is_time, earlier, is_moment, date_from, date_read, moment_of, moment_from, moment_read, date_text, moment_text}
use Rattle.amount.specs.Amounts.{whole, decimals, is_amount, trimmed, kept_before, shortened, tidy, meaning_of, meaning, amount_read, in_form, spread, amount_text, parts_read, noughts}
use Rattle.digits.specs.Numerals.{numeral_from, numeral, digits, number_of, wide_number, ten_to}
use Rattle.text.specs.Bytes.{bytes, begins, same, before, parts}
use Rattle.text.specs.Classes.{is_between, is_digit, is_upper, is_c, in_class, all_in, is_code}
use Rattle.text.specs.Texts.{contents, text_of, in_form as in_form-texts, padded_of}

-- records of which some number is not the same are different
apart : (f : Trade → ℕ) (a b : ℕ) {t u : Trade} → f t ≡ a → f u ≡ b → eqb a b ≡ false → t ≡ u → ⊥
apart f a b p q n e = eqb-false a b n (sym p ∙ ap f e ∙ q)

long : Trade → ℕ
long t = t.mast.len

second : Trade → ℕ
second t = get_or t.mast.bytes 1 0

pub answered : Answered
unfolding long second AnyType.reading AnyType.body_of AnyType.value_on AnyType.rules_of AnyType.verdict_of AnyType.read_of head_verdict head_pass head_value body_pass taken_in b ended without with behind exchanged cases Unlike AllUnlike trade_of_b general pool details tree slots header slot_of value_verdict values_pass value_from in_front cut_behind bare without_ending lines_of ended-lines size_pass may_stand byte_pass end_pass lines_pass line_at refused pass then is_tagged name_of named role_of ending opening closing turn follow nest nest_pass with_taken fit next seek later_field tell move_of following walk taken_by chain has lacking is_code word_at is_word unless form_number value_number service_in has_period period_in behind_period has_reason reason_in good_period good_reason is_narrative service_of period_of kind_in side_in party_of trade_of nobody never blank_trade other own contra stray function_of lacks_field tddk_only tddk_never has_forbidden when record_pass kinds_pass year month day leap is_month february is_long month_length is_date is_time earlier is_moment date_from date_read moment_of moment_from moment_read date_text moment_text whole decimals is_amount trimmed kept_before shortened tidy meaning_of meaning amount_read in_form spread amount_text parts_read noughts numeral_from numeral digits number_of wide_number ten_to bytes begins same before parts is_between is_digit is_upper is_c in_class all_in contents padded_of in_form-texts
answered = (
  refl,
  refl,
  refl,
  ((apart long 4 2 refl refl refl, (apart long 4 2 refl refl refl, tt)), ((apart second 55 53 refl refl refl, tt), (tt, tt))),
  refl,
)
