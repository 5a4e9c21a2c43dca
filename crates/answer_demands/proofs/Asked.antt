-- The MT509 keeps what is asked of a message type, by computation: how it is read, its fields, its amounts, of which it has none, and its
-- outline.
-- Assumes nothing.
use Prim.Native.Nat.{ℕ, ◌≤◌}
use mathlib.Core.Path.{◌≡◌, refl}
use mathlib.Core.Bool.{true}
use mathlib.Core.List.{[]}
use native.Mathlib.Omega.{arith}
use Rattle.text.specs.Bytes.{bytes, begins, same, before}
use Rattle.text.specs.Classes.{is_code}
use Rattle.digits.specs.Numerals as Numerals
use Rattle.calendar.specs.Dates.{date_read, date_from, moment_read, moment_from}
use Rattle.forms.specs.Forms.{value_number, form_number, unless, is_word, word_at}
use Rattle.sheets.specs.Trees.{chain}
use Rattle.sheets.specs.Notation.{repeated}
use Rattle.sheets.specs.Slots.{field_slots, own_slots, member_slots, slots_of}
use Rattle.sheets.specs.Sheets.{has}
use Rattle.sheets.proofs.Checks.{good_slot}
use Rattle.format.proofs.Chain.{Readable}
use Rattle.format.proofs.Laws.{every_slot}
use Rattle.format.proofs.Tests.{every, all_below, is_amount_form}
use Rattle.format.proofs.Field.{Fields}
use Rattle.format.proofs.FieldTests as Tests
use Rattle.format.proofs.Lent.{Amounts}
use Rattle.format.proofs.Moved.{none-else, onto, movable}
use Rattle.format.proofs.Outline.{Outlined}
use Rattle.status.specs.Statuses.{statuses}
use Rattle.answer_table.specs.Table.{header, slots, slot_of}
use Rattle.answer_table.specs.Tree.{reasons, status, general, tree}
use Rattle.answer_table.proofs.Laws.{slots-clean}
use Rattle.answer_values.specs.Mt509.{mt509}
use Rattle.answer_values.specs.Values.{reason_values, values, value_of}
use Rattle.answer_values.proofs.Laid.{layout}
use Rattle.answer_values.proofs.Laws.{rests}

pub is-readable : Readable mt509
unfolding every_slot slots_of member_slots own_slots field_slots header repeated chain tree general status reasons every
is-readable = record { layout = layout; placed = refl; clean = slots-clean; rests = rests }

-- the fields are slots of the layout, and none that is there is empty
pub fields-are : Fields mt509
unfolding all_below Tests.is_field slot_of slots statuses bytes begins before value_number form_number unless is_code is_word word_at same date_read date_from moment_read moment_from Numerals.wide_number slots_of member_slots own_slots field_slots chain repeated tree general status reasons has
fields-are = Tests.fields mt509 refl (λ s v more h. absurd (more refl))

pub amounts-are : (movable [] [] ≡ true) × Amounts mt509 (onto [] [])
unfolding movable onto every_slot slots_of member_slots own_slots field_slots header repeated chain tree general status reasons has every all_below is_amount_form slot_of slots statuses reason_values values value_of
amounts-are = (refl, record { placed = is-readable.placed; slots = refl; forms = refl; none = λ a. none-else mt509 (values a) refl })

-- beside the password stands the receiver, the header's last line
pub is-outlined : Outlined mt509 3
unfolding bytes good_slot every every_slot field_slots own_slots member_slots slots_of header statuses slots slot_of repeated chain general status reasons tree
is-outlined = record { placed = refl; is-line = omega arith; password-bare = refl; line-bare = refl; password-whole = refl; line-whole = refl }

pub is_short : mt509.longest ≤ 1476
is_short = omega arith
