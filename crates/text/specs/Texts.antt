-- Document 01, "Plain form, and the record": in a record a text is its bytes and its length, with zero bytes after.
-- Length 0 means absent, except that a password of length 0 is a blank password.
use Rattle.std.specs.Prelude.{ℕ, ◌-◌, Bool, ◌&&◌, cond, List, ◌++◌, leb, eqb, length, take, drop, replicate}
use Rattle.text.specs.Classes.{all_in}
use Rattle.text.specs.declared.Class.{Class}
use Rattle.text.specs.declared.Class.TheVariants.{C, Zero}
use Rattle.text.specs.declared.Padded.{Padded}

-- ---- in a room of so many bytes

-- a part, and zero bytes behind it
abbrev pub padded : ℕ → List ℕ → List ℕ
padded room s = s ++ replicate {A = ℕ} (room - length s) 0

-- the first `len` bytes are from a least to a most number, and the others are zero; `good` is what else is asked of those bytes. That there
-- are as many as the room has is their type's, and is said here so that bytes of which this holds tell all of themselves
abbrev pub fills : Bool → ℕ → ℕ → ℕ → List ℕ → ℕ → Bool
fills good room least most bytes len =
    eqb (length bytes) room && (leb len room && (leb least len && (leb len most && (good && all_in Zero (drop len bytes)))))

-- no part: length 0, and zero bytes in the whole room
abbrev pub none : (room : ℕ) → Padded room
none room = record { bytes = replicate {A = ℕ} room 0; len = 0 }

-- the bytes that it stands for
unfoldable pub contents : {room : ℕ} → Padded room → List ℕ
contents t = take t.len t.bytes

-- a part of a message in its room; what is longer than that gives none, and is never cut
unfoldable pub padded_of : (room : ℕ) → List ℕ → Padded room
padded_of room s = cond (leb (length s) room) (record { bytes = padded room s; len = length s }) (none room)

-- in form for a slot that takes from `least` to `most` bytes of a class
unfoldable pub in_form_of : {room : ℕ} → Class → ℕ → ℕ → Padded room → Bool
in_form_of {room} class least most t = fills (all_in class (contents t)) room least most t.bytes t.len

-- of c
unfoldable pub in_form : {room : ℕ} → ℕ → ℕ → Padded room → Bool
in_form {room} least most t = fills (all_in C (contents t)) room least most t.bytes t.len

-- ---- a text, which has room for twenty

abbrev pub Text : Type 0
Text = Padded 20

abbrev pub blank : Text
blank = none 20

-- a part of a message as a text; what is longer than any text of a record gives no text
abbrev pub text_of : List ℕ → Text
text_of = padded_of 20
