-- What callers rest on, of every slot by one test.
-- Assumes nothing.
use Prim.Native.Nat.{ℕ, ◌≤◌}
use mathlib.Core.Path.{◌≡◌, refl}
use mathlib.Core.Bool.{true}
use lib.ListN.{length}
use Rattle.text.specs.Bytes.{bytes}
use Rattle.text.specs.Classes.{is_between, printed, all_printed, printed_class}
use Rattle.measure.specs.Measure.{clean_form, clean_slot}
use Rattle.measure.proofs.Slots.{short-at, clean_at}
use Rattle.status.specs.Statuses.{statuses}
use Rattle.answer_table.specs.Table.{slots, lines, slot_of}

pub fixed-short : (i : ℕ) → length (slot_of i).fixed ≤ 16
unfolding slot_of slots statuses bytes
fixed-short i = short-at lines i refl

pub slots-clean : (i : ℕ) → clean_slot (slot_of i) ≡ true
unfolding slot_of slots statuses bytes clean_slot clean_form printed_class printed all_printed is_between
slots-clean i = clean_at lines i refl
