-- The second and the third demand, in the README's order and words, as statements about the MT515's definitions. What the functions
-- promise ties them to these: `reading::read` answers read_of, `writing::write` answers write_number and write_length and leaves
-- written_over. Each is proved in proofs/Demands: they are an instance of format's specs/Demands, which says them of any message type.
use Rattle.std.specs.Prelude.{ℕ, ◌≤◌, ◌≡◌, true, List, [], ◌++◌, map, ◌↔◌, ◌⊎◌, length}
use Rattle.text.specs.Copy.{over}
use Rattle.pieces.specs.Pieces.{pieces}
use Rattle.sheets.specs.Sheets.{Entry}
use Rattle.trade.specs.Records.{trade_of}
use Rattle.trade.specs.declared.Kind.{Kind}
use Rattle.trade.specs.declared.Trade.{Trade}
use Rattle.message.specs.Messages.{message_of}
use Rattle.message.specs.Plain.{plain_of}
use Rattle.message.specs.Writing.{write_number, write_length, written_over, writable}
use Rattle.format.specs.Reading as Read
use Rattle.format.specs.declared.Reading.{Reading}
use Rattle.format.specs.Lawful as AnyType
use Rattle.format.specs.Demands as Every
use Rattle.values.specs.Mt515.{mt515}

-- a message is lawful where its bytes and endings and its header are as document 01 says and there is a sheet of the layout whose
-- lines are those behind the header, whose values have their forms, and whose record meets the rules of its kind (format's
-- specs/Lawful); and what it says of a slot, behind the slot's fixed text
abbrev pub Lawful : List ℕ → Type 0
Lawful m = AnyType.Lawful mt515 m

abbrev pub said_in : List ℕ → List Entry → ℕ → List ℕ
said_in m es slot = AnyType.said_in mt515 m es slot

-- what a read answers
abbrev pub read_of : List ℕ → Reading Trade
read_of m = Read.read_of mt515 m

abbrev pub Accepted : List ℕ → Type 0
Accepted m = (read_of m).number ≡ 0

abbrev pub record_of : List ℕ → Trade
record_of m = (read_of m).held

-- what a read answers that accepts
abbrev pub accepts : Trade → Reading Trade
accepts t = Every.accepts mt515 t

-- ---- 2. It accepts an MT515 exactly when document 01's layout and rules are met and reads every field as they say

abbrev pub AcceptsLawful : Type 0
AcceptsLawful = (m : List ℕ) → Accepted m ↔ Lawful m

-- the record of a lawful message is what its sheet says, slot by slot
abbrev pub ReadsFields : Type 0
ReadsFields = (m : List ℕ) (w : Lawful m) → read_of m ≡ accepts (trade_of (said_in m w.sheet))

-- Reading back a written record gives that record
abbrev pub ReadsBack : Type 0
ReadsBack = (t : Trade) → writable t ≡ true → read_of (message_of t) ≡ accepts t

-- Writing the record of an accepted message, given room, gives that message's plain form
abbrev pub WritesPlain : Type 0
WritesPlain =
    (m buf : List ℕ) → Accepted m → length (plain_of m) ≤ length buf
    → (write_number (record_of m) (length buf) ≡ 0)
    × (write_length (record_of m) (length buf) ≡ length (plain_of m))
    × (written_over (record_of m) buf ≡ over buf 0 (plain_of m))

-- and every accepted message's record is writable
abbrev pub Writes : Type 0
Writes = (m : List ℕ) → Accepted m → writable (record_of m) ≡ true

-- a plain form is accepted with the same record, and its plain form is itself
abbrev pub PlainAgain : Type 0
PlainAgain = (m : List ℕ) → Accepted m → (read_of (plain_of m) ≡ accepts (record_of m)) × (plain_of (plain_of m) ≡ plain_of m)

-- ---- 3. Two accepted messages give the same record exactly when their plain forms are the same bytes

abbrev pub SameRecord : Type 0
SameRecord = (m k : List ℕ) → Accepted m → Accepted k → (record_of m ≡ record_of k) ↔ (plain_of m ≡ plain_of k)

abbrev pub AllWritable : List Trade → Type 0
AllWritable ts = Every.AllWritable mt515 ts

-- records that are written, one message after another
abbrev pub written : List Trade → List ℕ
written ts = Every.written mt515 ts

-- Two lists of writable records that differ anywhere are written as different bytes: those that are written alike are one
abbrev pub WrittenApart : Type 0
WrittenApart = (ts us : List Trade) → AllWritable ts → AllWritable us → written ts ≡ written us → ts ≡ us

-- no written message is the beginning of a different one
abbrev pub NoBeginning : Type 0
NoBeginning = (t u : Trade) (rest : List ℕ) → writable t ≡ true → writable u ≡ true → message_of u ≡ message_of t ++ rest → (rest ≡ []) × (t ≡ u)

-- cutting those joined bytes finds exactly the messages that were put in
abbrev pub CutsApart : Type 0
CutsApart = (ts : List Trade) → AllWritable ts → pieces (written ts) ≡ map message_of ts

-- ---- the longest written message has 822 bytes

abbrev pub NoLonger : Type 0
NoLonger = (t : Trade) → writable t ≡ true → length (message_of t) ≤ 822

abbrev pub AsLong : Type 0
AsLong = (t : Trade) × (t.kind ≡ Kind.Mdfc) × (writable t ≡ true) × (length (message_of t) ≡ 822)

-- so a buffer of 822 bytes takes a record exactly when no buffer refuses it but for being too short
abbrev pub OnlyRoom : Type 0
OnlyRoom = (t : Trade) → (writable t ≡ true) ↔ ((room : ℕ) → (write_number t room ≡ 0) ⊎ (write_number t room ≡ 19))

pub record Demands : Type 0 where
  pub accepts-lawful : AcceptsLawful
  pub reads-fields : ReadsFields
  pub reads-back : ReadsBack
  pub writes-plain : WritesPlain
  pub writes : Writes
  pub plain-again : PlainAgain
  pub same-record : SameRecord
  pub written_apart : WrittenApart
  pub no-beginning : NoBeginning
  pub cuts-apart : CutsApart
  pub no_longer : NoLonger
  pub as_long : AsLong
  pub only-room : OnlyRoom
