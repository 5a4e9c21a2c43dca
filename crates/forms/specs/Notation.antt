-- How a slot is written down, so that its texts read as text.
use Prim.Native.String.{String}
use Rattle.std.specs.Prelude.{List, map}
use Rattle.text.specs.Bytes.{bytes}
use Rattle.forms.specs.Forms.{Form, Slot, words}

-- the fixed text behind the qualifier, and the form of what follows it
abbrev pub slot : String → Form → Slot
slot fixed form = record { fixed = bytes fixed; form = form }

abbrev pub one_of : List String → Form
one_of ws = words (map bytes ws)
