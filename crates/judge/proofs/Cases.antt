-- Each record of the table gets the number beside it, by computation.
-- Assumes nothing.
use mathlib.Core.Path.{refl}
use Rattle.text.specs.Bytes.{bytes}
use Rattle.text.specs.Classes.{is_between, is_digit, is_upper, is_c, in_class, all_in, is_code}
use Rattle.text.specs.Texts.{contents, text_of, in_form as text_form, padded_of}
use Rattle.amount.specs.Amounts.{in_form as amount_form}
use Rattle.calendar.specs.Dates.{year, month, day, leap, is_month, february, is_long, month_length, is_date, is_time, is_moment, earlier}
use Rattle.digits.specs.Numerals.{digits}
use Rattle.lines.specs.Verdicts.{refused, pass, then, when}
use Rattle.trade.specs.Records.{nobody, never, blank_trade}
use Rattle.kinds.specs.Kinds.{other, own, contra, stray, lacks_field, tddk_only, tddk_never, has_forbidden, record_pass}
use Rattle.forms.specs.Forms.{unless, form_number}
use Rattle.sheets.specs.Slots.{field_slots, own_slots, member_slots, slots_of, first_slots, must_slots}
use Rattle.sheets.specs.Sheets.{has}
use Rattle.table.specs.Table.{slots, slot_of}
use Rattle.table.specs.Tree.{general, pool, details, tree}
use Rattle.reason.specs.Reason.{reason_text, reason_form}
use Rattle.typed.specs.Sides.{side_word}
use Rattle.values.specs.Values.{kind_word, service_word, period_text, narrative, values, value_of}
use Rattle.format.specs.Writable.{fitted, hold}
use Rattle.values.specs.Writable.{period_form, tests, in_form}
use Rattle.typed.specs.Prep.{prep_form}
use Rattle.values.specs.Cases.{b}
use Rattle.format.specs.Writing.{judge_of}
use Rattle.judge.specs.Cases.{trade, cases, Answered}

pub answered : Answered
unfolding b trade cases bytes is_between is_digit is_upper is_c in_class all_in contents padded_of text_form amount_form year month day leap is_month february is_long month_length is_date is_time is_moment earlier digits refused pass then nobody never blank_trade other own contra stray lacks_field tddk_only tddk_never has_forbidden when record_pass kind_word side_word service_word period_text reason_text narrative values value_of prep_form period_form reason_form tests hold in_form judge_of fitted is_code unless form_number slot_of slots field_slots own_slots member_slots slots_of first_slots must_slots tree general pool details has
answered = refl
