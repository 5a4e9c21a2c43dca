-- Document 01, "The slots, in order": the value of each slot of the MT515. Slots with a value are numbered from 1 as document 01
-- numbers its fields; the lines of the header, and lines behind it that are fixed, have the numbers 28 to 33. Which line stands
-- where is specs/Tree.
use Rattle.std.specs.Prelude.{ℕ, List, [], ◌∷◌, ◌++◌, map, get_or}
use Rattle.text.specs.Bytes.{bytes}
use Rattle.forms.specs.Forms.{Slot, nothing, codes, words, amount, date, moment, narrative, other}
use Rattle.forms.specs.Notation.{slot}
use Rattle.typed.specs.Sides.{sides}
use Rattle.trade.specs.Records.{kinds, narrative_slot, password_slot, sender_slot}

abbrev pub reference : Slot
reference = slot "//" (codes 1 16)

abbrev pub none : Slot
none = slot "" nothing

-- the words of 23G; those of BUSE and of PROC are the record's
abbrev pub functions : List (List ℕ)
functions = bytes "NEWM" ∷ bytes "CANC" ∷ []

-- the fields that document 01 numbers are 1 to this, the narrative's
abbrev pub last_field : ℕ
last_field = narrative_slot

-- lines that are fixed: TRTR and PAYM, and of the header the message type and the receiver
abbrev pub trtr_slot : ℕ
trtr_slot = 30

abbrev pub paym_slot : ℕ
paym_slot = 31

abbrev pub type_slot : ℕ
type_slot = 32

abbrev pub receiver_slot : ℕ
receiver_slot = 33

unfoldable pub slots : List Slot
slots =
    none  -- 0
    ∷ reference  -- 1
    ∷ slot "" (words functions)  -- 2
    ∷ slot "//" moment  -- 3
    ∷ reference  -- 4
    ∷ reference  -- 5
    ∷ reference  -- 6
    ∷ slot "//" moment  -- 7
    ∷ slot "//" date  -- 8
    ∷ slot "//PRCT/" amount  -- 9
    ∷ slot "//" (words sides)  -- 10
    ∷ slot "/GSCC/" (words kinds)  -- 11
    ∷ slot "/GSCC/PART" (codes 4 4)  -- 12
    ∷ reference  -- 13
    ∷ slot "//GSCC/TDID" (codes 1 20)  -- 14
    ∷ slot "/GSCC/PART" (codes 4 4)  -- 15
    ∷ reference  -- 16
    ∷ slot "//GSCC/TDID" (codes 1 20)  -- 17
    ∷ slot "//FAMT/" amount  -- 18
    ∷ slot "/US/" (codes 9 9)  -- 19
    ∷ slot "/GSCC/" (codes 1 9)  -- 20
    ∷ slot "//GSCC" narrative  -- 21, narrative_slot
    ∷ none ∷ none ∷ none  -- 22 to 24
    ∷ none ∷ none ∷ none  -- 25 to 27
    ∷ slot "" (codes 0 12)  -- 28, password_slot
    ∷ slot "" (codes 1 8)  -- 29, sender_slot
    ∷ slot "/GSCC/CASH" nothing  -- 30, trtr_slot
    ∷ slot "//APMT" nothing  -- 31, paym_slot
    ∷ slot "515/000/GSCC" nothing  -- 32, type_slot
    ∷ slot "MBSCTRRS" nothing  -- 33, receiver_slot
    ∷ []

-- the slots of the header's lines
unfoldable pub header : List ℕ
header = password_slot ∷ sender_slot ∷ type_slot ∷ receiver_slot ∷ []

-- the lines of a program's bytes: behind the slots, in lines that no row names, stand the words
abbrev pub lines : List Slot
lines = slots ++ map (λ w. record { fixed = w; form = nothing }) (functions ++ (sides ++ kinds))

unfoldable pub slot_of : ℕ → Slot
slot_of i = get_or lines i (slot "" other)
