-- The MT509's layout has what the demands ask of one, by computation.
-- Assumes nothing.
use Prim.Native.Nat.{ℕ}
use mathlib.Core.Path.{◌≡◌, refl}
use mathlib.Core.Bool.{true}
use native.Mathlib.Omega.{arith}
use Rattle.text.specs.Bytes.{bytes, begins, same, before, parts}
use Rattle.text.specs.Classes.{is_between, is_digit, is_upper, is_c, is_hyphened, in_class, all_in, is_code, printed_class}
use Rattle.text.proofs.Printed.{printed, all_printed}
use Rattle.digits.specs.Numerals as Numerals
use Rattle.calendar.specs.Dates.{date_read, date_from, moment_read, moment_from}
use Rattle.forms.specs.Forms.{is_word, word_at, unless, form_number, value_number}
use Rattle.forms.proofs.Printing.{printed_form}
use Rattle.blocks.specs.Blocks.{is_tagged, name_of}
use Rattle.bars.specs.Bars.{any_front, goes_on, bar_number}
use Rattle.fitting.specs.Fitting.{bar_text}
use Rattle.sheets.specs.Trees.{chain}
use Rattle.sheets.specs.Notation.{repeated}
use Rattle.sheets.specs.Slots.{field_slots, own_slots, member_slots, slots_of, first_slots, must_slots}
use Rattle.sheets.specs.Sheets.{has}
use Rattle.sheets.proofs.Checks.{keys_of, groups_of, clash, disjoint, distinct, with_fields, with_members, with_tree}
use Rattle.sheets.proofs.Ends.{last_line}
use Rattle.sheets.proofs.Moves.{bars_pass}
use Rattle.format.specs.Format.{optional}
use Rattle.format.proofs.Numbers.{up_to}
use Rattle.format.proofs.Tests.{every, is_codes, no_code, foreign, is_amount_form, apart_text, once_front, untouched, tidy_row, tidy_fields, tidy_members, tidy_tree}
use Rattle.format.proofs.Nests.{field_key, opens_at, closer, field_keys, member_keys, nestable}
use Rattle.format.proofs.Prints.{field_texts, member_texts, texts, printable}
use Rattle.format.proofs.Worded.{all_go_on, slot_agrees, bar_agrees, words_agree}
use Rattle.format.proofs.Laws.{edges, strangers, every_slot, Layout}
use Rattle.status.specs.Statuses.{statuses}
use Rattle.answer_table.specs.Table.{slots, header, slot_of}
use Rattle.answer_table.specs.Tree.{reasons, status, general, tree}
use Rattle.answer_table.proofs.Trees.{good, is-apart, ends_at, is-once, is-sole, is-tellable}
use Rattle.answer_values.specs.Mt509.{links, mt509}

pub layout : Layout mt509
unfolding bytes begins same before parts is_between is_digit is_upper is_c is_hyphened in_class all_in printed_class printed Numerals.wide_number date_read date_from moment_read moment_from is_code is_word word_at unless form_number value_number all_printed printed_form is_tagged name_of chain repeated field_slots own_slots member_slots slots_of first_slots must_slots has groups_of keys_of clash disjoint distinct with_fields with_members with_tree last_line every_slot optional every is_codes no_code foreign is_amount_form apart_text once_front untouched tidy_row tidy_fields tidy_members tidy_tree field_key opens_at closer field_keys member_keys nestable bar_text field_texts member_texts texts any_front goes_on all_go_on slot_agrees bar_agrees words_agree printable edges strangers statuses slots header slot_of reasons status general tree links
layout =
    record {
      good = good;
      is-apart = is-apart;
      ends_at = ends_at;
      last-is = refl;
      is-once = is-once;
      is-sole = is-sole;
      is-tellable = is-tellable;
      are-with = refl;
      nests = refl;
      texts-are = refl;
      none_bare = refl;
      none-fixed = refl;
      words-agree = refl;
      printing = refl;
      groups-are = refl;
      is-tidy = refl;
      four = refl;
      heads-distinct = refl;
      heads-apart = refl;
      heads-plain = refl;
      heads-foreign = refl;
      short = omega arith;
    }

-- the number of a bar is 8 or 22
pub bars-22 : bars_pass (up_to 22) mt509.tree ≡ true
unfolding bars_pass up_to bar_number chain repeated reasons status general tree
bars-22 = refl
