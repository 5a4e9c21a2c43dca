-- Neither way loses anything: what packing and unpacking say of each other. Proved in proofs/Back.
use Rattle.std.specs.Prelude.{ℕ, ◌+◌, ◌*◌, ◌≡◌, Bool, true, ◌&&◌, List, map, leb, eqb, length, Option, Some, None}
use Rattle.text.specs.Texts.{Text}
use Rattle.calendar.specs.declared.Moment.{Moment}
use Rattle.trade.specs.Records.{blank_trade}
use Rattle.trade.specs.declared.Trade.{Trade}
use Rattle.format.specs.Writable.{hold}
use Rattle.values.specs.Mt515.{mt515}
use Rattle.message.specs.Writing.{written_over, writable}
use Rattle.writing.specs.Writing.{writing_of}
use Rattle.packed.specs.Packed.{texts, numbers, packed_of}
use Rattle.unpacked.specs.Unpacked.{unpacked_of, record_in}

-- ---- every field has room in its place

unfoldable pub text_fits : Text → Bool
text_fits t = eqb (length t.bytes) 20 && leb t.len 255

unfoldable pub period_fits : Option ℕ → Bool
period_fits None = true
period_fits (Some n) = leb n 254

unfoldable pub moment_fits : Moment → Bool
moment_fits m = leb (m.date.0 * 1000000 + m.time.0) 18446744073709551615 && leb m.time.0 999999

unfoldable pub number_fits : ℕ → Bool
number_fits n = leb n 18446744073709551615

unfoldable pub has_room : Trade → Bool
has_room t = hold (map text_fits (texts t)) && (hold (map number_fits (numbers t)) && (period_fits t.period && (moment_fits t.prep && moment_fits t.trad)))

-- what the language sees to: a text has twenty bytes, and a number has room in eight
unfoldable pub text_held : Text → Bool
text_held t = eqb (length t.bytes) 20

unfoldable pub typed : Trade → Bool
typed t = hold (map text_held (texts t)) && hold (map number_fits (numbers t))

unfoldable pub byte_fits : ℕ → Bool
byte_fits b = leb b 255

-- ---- the statements

-- unpacking gives back what was packed
abbrev pub Back : Type 0
Back = (t : Trade) → has_room t ≡ true → unpacked_of (packed_of t) ≡ Some t

-- and so for every record that may be written, and for the blank one
abbrev pub Fits : Type 0
Fits = ((t : Trade) → writable t ≡ true → has_room t ≡ true) × (has_room blank_trade ≡ true)

-- a field that has no room in its place never comes back as one that may be written: what may be written is what was packed
abbrev pub Itself : Type 0
Itself = (t : Trade) → typed t ≡ true → writable (record_in (packed_of t)) ≡ true → record_in (packed_of t) ≡ t

-- packing gives back the bytes that were unpacked: two records of bytes are never one record
abbrev pub Again : Type 0
Again = (s : List ℕ) (t : Trade) → length s ≡ 375 → hold (map byte_fits s) ≡ true → unpacked_of s ≡ Some t → packed_of t ≡ s

-- two records that may be written and have the same bytes are one
abbrev pub Apart : Type 0
Apart = (t u : Trade) → writable t ≡ true → writable u ≡ true → packed_of t ≡ packed_of u → t ≡ u

-- bytes that are no record are refused with 18, and change nothing
abbrev pub Refused : Type 0
Refused =
    (s buf : List ℕ) → unpacked_of s ≡ None
    → (writing_of mt515 (record_in s) (length buf) ≡ record { number = 18; length = 0 }) × (written_over (record_in s) buf ≡ buf)

pub record Lossless : Type 0 where
  pub back : Back
  pub fit : Fits
  pub itself : Itself
  pub again : Again
  pub apart : Apart
  pub refused : Refused
