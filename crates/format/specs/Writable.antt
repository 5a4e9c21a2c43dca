-- Document 01, number 18, of any message type: a text of the record against its slot, and tests that hold together.
use Rattle.std.specs.Prelude.{ℕ, Bool, true, ◌&&◌, ◌||◌, List, [], ◌∷◌, eqb, length}
use Rattle.text.specs.Texts.{contents, in_form}
use Rattle.text.specs.Texts.{Text}
use Rattle.forms.specs.Forms.{Slot, form_number}
use Rattle.sheets.specs.Trees.{Tree}
use Rattle.format.specs.Format.{may_lack}

-- a text is in form, and is a value of its slot, or absent where the layout may lack it
unfoldable pub fitted : Tree → (ℕ → Slot) → ℕ → Text → Bool
fitted tree slot_of slot x = in_form 0 20 x && ((may_lack tree slot && eqb x.len 0) || eqb (form_number (slot_of slot).form (contents x)) 0)

-- the same of a text that is not of c, or has another room: whether it is in form, and its contents
unfoldable pub fitted_in : Tree → (ℕ → Slot) → ℕ → Bool → List ℕ → Bool
fitted_in tree slot_of slot form v = form && ((may_lack tree slot && eqb (length v) 0) || eqb (form_number (slot_of slot).form v) 0)

unfoldable pub hold : List Bool → Bool
hold [] = true
hold (b ∷ bs) = b && hold bs
