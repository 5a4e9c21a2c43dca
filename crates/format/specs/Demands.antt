-- The second and the third demand, in the README's order and words, of any message type. They are proved in proofs/Demands of every
-- format that keeps the laws of proofs/Laws.
use Rattle.std.specs.Prelude.{ℕ, ◌≤◌, ◌≡◌, true, ◌↔◌, ◌⊎◌, length}
use mathlib.Core.List.{List, [], ◌∷◌, ◌++◌, map, flatten}
use Rattle.text.specs.Copy.{over}
use Rattle.pieces.specs.Pieces.{pieces}
use Rattle.format.specs.Format.{Format}
use Rattle.format.specs.Reading.{read_of}
use Rattle.format.specs.declared.Reading.{Reading}
use Rattle.format.specs.Lawful.{said_in, Lawful}
use Rattle.format.specs.Writing.{message_of, write_number, write_length, written_over, writable}
use Rattle.format.specs.Plain.{plain_of}

module _ (F : Format) where
  abbrev pub Accepted : List ℕ → Type 0
  Accepted m = (read_of F m).number ≡ 0

  abbrev pub held_in : List ℕ → F.Held
  held_in m = (read_of F m).held

  -- what a read answers that accepts
  abbrev pub accepts : F.Held → Reading F.Held
  accepts r = record { number = 0; line = 0; held = r }

  abbrev pub AllWritable : List F.Held → Type 0
  AllWritable [] = Unit
  AllWritable (r ∷ rs) = (writable F r ≡ true) × AllWritable rs

  -- records that are written, one message after another
  abbrev pub written : List F.Held → List ℕ
  written rs = flatten (map (message_of F) rs)

  pub record Demands : Type 0 where
    -- 2. It accepts a message exactly when the layout and the rules are met, and reads every field as they say
    pub accepts-lawful : (m : List ℕ) → Accepted m ↔ Lawful F m
    pub reads-fields : (m : List ℕ) (w : Lawful F m) → read_of F m ≡ accepts (F.record_of (said_in F m w.sheet))
    -- Reading back a written record gives that record
    pub reads-back : (r : F.Held) → writable F r ≡ true → read_of F (message_of F r) ≡ accepts r
    -- Writing the record of an accepted message, given room, gives that message's plain form
    pub writes-plain : (m buf : List ℕ) → Accepted m → length (plain_of F m) ≤ length buf
        → (write_number F (held_in m) (length buf) ≡ 0)
        × (write_length F (held_in m) (length buf) ≡ length (plain_of F m))
        × (written_over F (held_in m) buf ≡ over buf 0 (plain_of F m))
    -- and every accepted message's record is writable
    pub writes : (m : List ℕ) → Accepted m → writable F (held_in m) ≡ true
    -- a plain form is accepted with the same record, and its plain form is itself
    pub plain-again : (m : List ℕ) → Accepted m → (read_of F (plain_of F m) ≡ accepts (held_in m)) × (plain_of F (plain_of F m) ≡ plain_of F m)
    -- 3. Two accepted messages give the same record exactly when their plain forms are the same bytes
    pub same-record : (m k : List ℕ) → Accepted m → Accepted k → (held_in m ≡ held_in k) ↔ (plain_of F m ≡ plain_of F k)
    -- Two lists of writable records that differ anywhere are written as different bytes: those that are written alike are one
    pub written_apart : (rs qs : List F.Held) → AllWritable rs → AllWritable qs → written rs ≡ written qs → rs ≡ qs
    -- no written message is the beginning of a different one
    pub no-beginning : (r q : F.Held) (rest : List ℕ) → writable F r ≡ true → writable F q ≡ true → message_of F q ≡ message_of F r ++ rest
        → (rest ≡ []) × (r ≡ q)
    -- cutting those joined bytes finds exactly the messages that were put in
    pub cuts-apart : (rs : List F.Held) → AllWritable rs → pieces (written rs) ≡ map (message_of F) rs
    -- no written message is longer than the longest, so a buffer of that length takes a record exactly when no buffer refuses it
    -- but for being too short
    pub no_longer : (r : F.Held) → writable F r ≡ true → length (message_of F r) ≤ F.longest
    pub only-room : (r : F.Held) → (writable F r ≡ true) ↔ ((room : ℕ) → (write_number F r room ≡ 0) ⊎ (write_number F r room ≡ 19))
