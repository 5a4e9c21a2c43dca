-- Request A3, "Slots" and "The record": the value of 70D is one line of 1 to 35 bytes of 20 to 7E hex. In a record it is its bytes and its
-- length, with zero bytes after, as document 01 has texts; length 0 means absent.
use Rattle.std.specs.Prelude.{ℕ, Bool, List}
use Rattle.text.specs.Texts.{none, padded_of, in_form_of}
unfoldable pub use Rattle.text.specs.Texts.{contents}
use Rattle.text.specs.declared.Class.TheVariants.{Printed}
use Rattle.text.specs.declared.Padded.{Padded}

abbrev pub Remark : Type 0
Remark = Padded 35

-- no text: length 0 and thirty-five zero bytes
abbrev pub blank : Remark
blank = none 35

-- a part of a message as a remark; what is longer than any gives none, and is never cut
abbrev pub remark_of : List ℕ → Remark
remark_of = padded_of 35

-- a remark is in form for a slot that takes from `least` to `most` bytes that can be printed
abbrev pub in_form : ℕ → ℕ → Remark → Bool
in_form least most r = in_form_of Printed least most r
