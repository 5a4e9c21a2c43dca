-- How many bytes at the front of a text are the value of a slot. What is said goes one way: where a number is told, so many bytes are such
-- a value; where none is, nothing is said.
use Rattle.std.specs.Prelude.{ℕ, ◌%◌, ◌≤◌, ◌≡◌, Bool, true, ◌&&◌, List, length, take, drop, get_or, Option, Some, None}
use Rattle.text.specs.Bytes.{begins}
use Rattle.text.specs.Classes.{printed, printed_class, all_printed}
use Rattle.forms.specs.Forms.{Form, Slot, nothing, codes, characters, words, amount, date, moment, narrative, pool_narrative, other, form_number, value_number}
use Rattle.forms.specs.Slots.{form_of}

-- the words of a form or its class, and with them the fixed text of a slot, are of 20 to 7E hex
unfoldable pub clean_form : Form → Bool
clean_form nothing = true
clean_form (codes least most) = true
clean_form (characters class least most) = printed_class class
clean_form (words ws) = all_printed ws
clean_form amount = true
clean_form date = true
clean_form moment = true
clean_form narrative = true
clean_form pool_narrative = true
clean_form other = true

unfoldable pub clean_slot : Slot → Bool
clean_slot slot = printed slot.fixed && clean_form slot.form

-- so many bytes at the front of a text get 0 in a form, and where the form is clean they hold no line ending
unfoldable pub FormMeasured : Form → List ℕ → Option ℕ → Type 0
FormMeasured form s (Some n) = (n ≤ length s) × (form_number form (take n s) ≡ 0) × (clean_form form ≡ true → printed (take n s) ≡ true)
FormMeasured form s None = Unit

-- the same of a slot, its fixed text with it
unfoldable pub Measured : Slot → List ℕ → Option ℕ → Type 0
Measured slot s (Some n) = (n ≤ length s) × (value_number slot (take n s) ≡ 0) × (clean_slot slot ≡ true → printed (take n s) ≡ true)
Measured slot s None = Unit

-- ---- a step of the code

-- the slot that a line of the slots' bytes says
unfoldable pub slot_in : List ℕ → List ℕ → Slot
slot_in t s = record { fixed = take (get_or s 3 0 % 17) (drop 4 s); form = form_of t (get_or s 0 0) (get_or s 1 0) (get_or s 2 0) }

-- the fixed text of such a line stands at the front of a text
unfoldable pub FixedMeasured : List ℕ → List ℕ → Option ℕ → Type 0
FixedMeasured s v (Some n) = (n ≡ get_or s 3 0) × (n ≤ 16) × (begins (take n (drop 4 s)) v ≡ true)
FixedMeasured s v None = Unit
