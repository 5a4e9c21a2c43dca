-- Request A3, "Slots, in order": the value of each slot of an MT509. Slots with a value are numbered from 1 as the fields are; the lines of
-- the header have the numbers 32 to 35. Which line stands where is specs/Tree.
use Rattle.std.specs.Prelude.{ℕ, List, [], ◌∷◌, ◌++◌, map, get_or}
use Rattle.text.specs.Bytes.{bytes}
use Rattle.text.specs.declared.Class.TheVariants.{Hyphened, Printed}
use Rattle.forms.specs.Forms.{Slot, nothing, codes, characters, words, moment, other}
use Rattle.forms.specs.Notation.{slot}
use Rattle.status.specs.Statuses.{statuses}
use Rattle.answer.specs.Records.{function_slot, status_slot, password_slot, receiver_slot}

-- a reference of the member's own, and one that may be the clearing house's
abbrev pub reference : Slot
reference = slot "//" (codes 1 16)

abbrev pub assigned : Slot
assigned = slot "//" (characters Hyphened 1 16)

-- the code and the text of a reason
abbrev pub reason_code : Slot
reason_code = slot "/GSCC/" (codes 4 4)

abbrev pub reason_text : Slot
reason_text = slot "//" (characters Printed 1 35)

-- the texts of 23G; those of 25D are the record's
abbrev pub functions : List (List ℕ)
functions = bytes "CAST/COPY" ∷ bytes "CAST" ∷ bytes "INST" ∷ []

-- the fields are 1 to this, the text of the tenth reason
abbrev pub last_field : ℕ
last_field = 31

-- lines of the header that are fixed: the sender and the message type
abbrev pub sender_slot : ℕ
sender_slot = 34

abbrev pub type_slot : ℕ
type_slot = 35

unfoldable pub slots : List Slot
slots =
    slot "" nothing  -- 0
    ∷ reference  -- 1
    ∷ slot "" (words functions)  -- 2, function_slot
    ∷ slot "//" moment  -- 3
    ∷ reference  -- 4
    ∷ assigned  -- 5
    ∷ reference  -- 6
    ∷ assigned  -- 7
    ∷ assigned  -- 8
    ∷ assigned  -- 9
    ∷ assigned  -- 10
    ∷ slot "" (words statuses)  -- 11, status_slot
    ∷ reason_code  -- 12
    ∷ reason_text  -- 13
    ∷ reason_code  -- 14
    ∷ reason_text  -- 15
    ∷ reason_code  -- 16
    ∷ reason_text  -- 17
    ∷ reason_code  -- 18
    ∷ reason_text  -- 19
    ∷ reason_code  -- 20
    ∷ reason_text  -- 21
    ∷ reason_code  -- 22
    ∷ reason_text  -- 23
    ∷ reason_code  -- 24
    ∷ reason_text  -- 25
    ∷ reason_code  -- 26
    ∷ reason_text  -- 27
    ∷ reason_code  -- 28
    ∷ reason_text  -- 29
    ∷ reason_code  -- 30
    ∷ reason_text  -- 31, last_field
    ∷ slot "" (codes 0 12)  -- 32, password_slot
    ∷ slot "" (codes 1 8)  -- 33, receiver_slot
    ∷ slot "MBSCTRRS" nothing  -- 34, sender_slot
    ∷ slot "509/000/GSCC" nothing  -- 35, type_slot
    ∷ []

-- the slots of the header's lines
unfoldable pub header : List ℕ
header = password_slot ∷ sender_slot ∷ type_slot ∷ receiver_slot ∷ []

-- the lines of a program's bytes: behind the slots, in lines that no row names, stand the words
abbrev pub lines : List Slot
lines = slots ++ map (λ w. record { fixed = w; form = nothing }) (functions ++ statuses)

unfoldable pub slot_of : ℕ → Slot
slot_of i = get_or lines i (slot "" other)
