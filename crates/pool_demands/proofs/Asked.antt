-- A pool message keeps what is asked of a message type, by computation: how it is read, its fields, its amounts, and its outline.
-- Assumes nothing.
use Prim.Native.Nat.{ℕ, ◌≤◌}
use mathlib.Core.Path.{◌≡◌, refl, ap, ◌∙◌}
use mathlib.Core.Bool.{true}
use mathlib.Core.List.{List, [], ◌∷◌}
use native.Mathlib.Omega.{arith}
use Rattle.text.specs.Bytes.{bytes, begins, same, before}
use Rattle.text.specs.Classes.{is_code}
use Rattle.digits.specs.Numerals as Numerals
use Rattle.amount.specs.Amounts.{amount_read, is_amount, whole}
use Rattle.calendar.specs.Dates.{date_read, date_from, moment_read, moment_from}
use Rattle.forms.specs.Forms.{value_number, form_number, unless, is_word, word_at}
use Rattle.text.proofs.Laws.{begins-append}
use Rattle.forms.specs.Pool.{is_pool_shape, pool_number}
use Rattle.forms.proofs.PoolNarratives.{pool-is}
use Rattle.pool_trade.specs.Records.{narrative_slot}
use Rattle.sheets.specs.Slots.{field_slots, own_slots, member_slots, slots_of}
use Rattle.sheets.specs.Sheets.{has}
use Rattle.sheets.proofs.Checks.{good_slot}
use Rattle.format.proofs.Chain.{Readable}
use Rattle.format.proofs.Laws.{every_slot}
use Rattle.format.proofs.Tests.{every, all_below, is_amount_form}
use Rattle.format.proofs.Field.{Fields}
use Rattle.format.proofs.FieldTests as Tests
use Rattle.format.proofs.Finding.{behind-front}
use Rattle.format.proofs.Lent.{Amounts}
use Rattle.format.proofs.Moved.{none-else, onto, movable}
use Rattle.format.proofs.Outline.{Outlined}
use Rattle.pool_table.specs.Table.{header, slots, slot_of}
use Rattle.pool_table.specs.Tree.{general, security, details, tree}
use Rattle.pool_table.proofs.Laws.{slots-clean}
use Rattle.pool_values.specs.Pool.{pool}
use Rattle.pool_values.specs.Values.{values, value_of}
use Rattle.pool_values.proofs.Laid.{layout}
use Rattle.pool_values.proofs.Laws.{rests}

pub is-readable : Readable pool
unfolding every_slot slots_of member_slots own_slots field_slots header tree general security details every
is-readable = record { layout = layout; placed = refl; clean = slots-clean; rests = rests }

-- the narrative begins with its word
pub told-begins : (v : List ℕ) → form_number (slot_of narrative_slot).form v ≡ 0 → begins (bytes "/TDSVPOOL") v ≡ true
unfolding slot_of slots form_number
told-begins v h = ap (begins (bytes "/TDSVPOOL")) (pool-is v h) ∙ begins-append (bytes "/TDSVPOOL") _

-- the fields are slots of the layout, and none that is there is empty
pub fields-are : Fields pool
unfolding all_below Tests.is_field slot_of slots bytes begins before value_number form_number unless is_code is_word word_at same amount_read is_amount whole date_read date_from moment_read moment_from Numerals.wide_number is_pool_shape pool_number slots_of member_slots own_slots field_slots tree general security details has
fields-are = Tests.fields pool refl (behind-front pool narrative_slot 1 (bytes "/TDSVPOOL") (λ slot. refl) refl told-begins)

-- the price, the money and the par are its amounts
pub amounts-are : (movable (8 ∷ 9 ∷ 16 ∷ []) [] ≡ true) × Amounts pool (onto (8 ∷ 9 ∷ 16 ∷ []) [])
unfolding movable onto every_slot slots_of member_slots own_slots field_slots header tree general security details has every all_below is_amount_form slot_of slots values value_of
amounts-are = (refl, record { placed = is-readable.placed; slots = refl; forms = refl; none = λ t. none-else pool (values t) refl })

-- beside the password stands the sender, the header's second line
pub is-outlined : Outlined pool 1
unfolding bytes good_slot every every_slot field_slots own_slots member_slots slots_of header slots slot_of tree general security details
is-outlined = record { placed = refl; is-line = omega arith; password-bare = refl; line-bare = refl; password-whole = refl; line-whole = refl }

pub is_short : pool.longest ≤ 1476
is_short = omega arith
