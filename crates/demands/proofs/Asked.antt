-- The MT515 keeps what is asked of a message type, by computation: how it is read, its fields, its amounts, and its outline.
-- Assumes nothing.
use Prim.Native.Nat.{ℕ, ◌≤◌}
use mathlib.Core.Path.{◌≡◌, refl}
use mathlib.Core.Bool.{true}
use mathlib.Core.List.{List, [], ◌∷◌}
use native.Mathlib.Omega.{arith}
use Rattle.text.specs.Bytes.{bytes, begins, same, before}
use Rattle.text.specs.Classes.{is_code}
use Rattle.digits.specs.Numerals as Numerals
use Rattle.amount.specs.Amounts.{amount_read, is_amount, whole}
use Rattle.calendar.specs.Dates.{date_read, date_from, moment_read, moment_from}
use Rattle.forms.specs.Forms.{value_number, form_number, unless, is_word, word_at}
use Rattle.text.proofs.Laws.{and_left}
use Rattle.forms.specs.Narrative.{is_narrative}
use Rattle.forms.proofs.Laws.{unless-good}
use Rattle.sheets.specs.Slots.{field_slots, own_slots, member_slots, slots_of}
use Rattle.sheets.specs.Sheets.{has}
use Rattle.sheets.proofs.Checks.{good_slot}
use Rattle.format.proofs.Chain.{Readable}
use Rattle.format.proofs.Laws.{every_slot}
use Rattle.format.proofs.Tests.{every, all_below, is_amount_form}
use Rattle.format.proofs.Field.{Fields}
use Rattle.format.proofs.FieldTests as Tests
use Rattle.format.proofs.Finding.{behind-front}
use Rattle.format.proofs.Lent.{Amounts}
use Rattle.format.proofs.Moved.{none-else, onto, movable}
use Rattle.format.proofs.Outline.{Outlined}
use Rattle.table.specs.Table.{header, slots, slot_of}
use Rattle.table.specs.Tree.{general, pool, details, tree}
use Rattle.table.proofs.Laws.{slots-clean}
use Rattle.values.specs.Mt515.{mt515}
use Rattle.values.specs.Values.{values, value_of}
use Rattle.values.proofs.Laid.{layout}
use Rattle.values.proofs.Laws.{rests}

pub is-readable : Readable mt515
unfolding every_slot slots_of member_slots own_slots field_slots header tree general pool details every
is-readable = record { layout = layout; placed = refl; clean = slots-clean; rests = rests }

-- the narrative begins with its word
pub told-begins : (v : List ℕ) → form_number (slot_of 21).form v ≡ 0 → begins (bytes "/TDSV") v ≡ true
unfolding slot_of slots form_number is_narrative
told-begins v h = and_left _ _ (unless-good (is_narrative v) h)

-- the fields are slots of the layout, and none that is there is empty
pub fields-are : Fields mt515
unfolding all_below Tests.is_field slot_of slots bytes begins before value_number form_number unless is_code is_word word_at same amount_read is_amount whole date_read date_from moment_read moment_from Numerals.wide_number is_narrative slots_of member_slots own_slots field_slots tree general pool details has
fields-are = Tests.fields mt515 refl (behind-front mt515 21 1 (bytes "/TDSV") (λ slot. refl) refl told-begins)

-- the price and the par are its amounts
pub amounts-are : (movable (9 ∷ 18 ∷ []) [] ≡ true) × Amounts mt515 (onto (9 ∷ 18 ∷ []) [])
unfolding movable onto every_slot slots_of member_slots own_slots field_slots header tree general pool details has every all_below is_amount_form slot_of slots values value_of
amounts-are = (refl, record { placed = is-readable.placed; slots = refl; forms = refl; none = λ t. none-else mt515 (values t) refl })

-- beside the password stands the sender, the header's second line
pub is-outlined : Outlined mt515 1
unfolding bytes good_slot every every_slot field_slots own_slots member_slots slots_of header slots slot_of tree general pool details
is-outlined = record { placed = refl; is-line = omega arith; password-bare = refl; line-bare = refl; password-whole = refl; line-whole = refl }

pub is_short : mt515.longest ≤ 1476
is_short = omega arith
