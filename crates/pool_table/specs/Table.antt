-- Request A1, "Slots, in order": the value of each slot of a pool message. Slots with a value are numbered from 1 as the table numbers its
-- fields; the lines of the header, and lines behind it that are fixed, have the numbers 20 to 25. Which line stands where is specs/Tree.
use Rattle.std.specs.Prelude.{ℕ, List, [], ◌∷◌, ◌++◌, map, get_or}
use Rattle.text.specs.Bytes.{bytes}
use Rattle.forms.specs.Forms.{Slot, nothing, codes, words, amount, date, moment, pool_narrative, other}
use Rattle.forms.specs.Notation.{slot}
use Rattle.typed.specs.Sides.{sides}
use Rattle.pool_trade.specs.Records.{kinds, narrative_slot, password_slot, sender_slot}

abbrev pub reference : Slot
reference = slot "//" (codes 1 16)

-- the words of 23G; those of BUSE and of PROC are the record's
abbrev pub functions : List (List ℕ)
functions = bytes "NEWM" ∷ bytes "CANC" ∷ []

-- the fields are 1 to this, the narrative's
abbrev pub last_field : ℕ
last_field = narrative_slot

-- lines that are fixed: TRTR and PAYM, and of the header the message type and the receiver
abbrev pub trtr_slot : ℕ
trtr_slot = 22

abbrev pub paym_slot : ℕ
paym_slot = 23

abbrev pub type_slot : ℕ
type_slot = 24

abbrev pub receiver_slot : ℕ
receiver_slot = 25

unfoldable pub slots : List Slot
slots =
    slot "" nothing  -- 0
    ∷ reference  -- 1
    ∷ slot "" (words functions)  -- 2
    ∷ reference  -- 3
    ∷ reference  -- 4
    ∷ reference  -- 5
    ∷ slot "//" moment  -- 6
    ∷ slot "//" date  -- 7
    ∷ slot "//PRCT/" amount  -- 8
    ∷ slot "//USD" amount  -- 9
    ∷ slot "//" (words sides)  -- 10
    ∷ slot "/DTCY/" (words kinds)  -- 11
    ∷ slot "/DTCY/PART" (codes 4 4)  -- 12
    ∷ reference  -- 13
    ∷ slot "/DTCY/PART" (codes 4 4)  -- 14
    ∷ reference  -- 15
    ∷ slot "//FAMT/" amount  -- 16
    ∷ slot "/US/" (codes 9 9)  -- 17
    ∷ slot "/DTCY/" (codes 1 9)  -- 18
    ∷ slot "//DTCY" pool_narrative  -- 19, narrative_slot
    ∷ slot "" (codes 0 12)  -- 20, password_slot
    ∷ slot "" (codes 1 8)  -- 21, sender_slot
    ∷ slot "/DTCY/CASH" nothing  -- 22, trtr_slot
    ∷ slot "//APMT" nothing  -- 23, paym_slot
    ∷ slot "515/000/DTCY" nothing  -- 24, type_slot
    ∷ slot "MBSCPNET" nothing  -- 25, receiver_slot
    ∷ []

-- the slots of the header's lines
unfoldable pub header : List ℕ
header = password_slot ∷ sender_slot ∷ type_slot ∷ receiver_slot ∷ []

-- the lines of a program's bytes: behind the slots, in lines that no row names, stand the words
abbrev pub lines : List Slot
lines = slots ++ map (λ w. record { fixed = w; form = nothing }) (functions ++ (sides ++ kinds))

unfoldable pub slot_of : ℕ → Slot
slot_of i = get_or lines i (slot "" other)
