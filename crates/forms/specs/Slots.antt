-- The bytes that a program holds of its slots, twenty to a line: a form, its least and most width, the length of a text, and
-- sixteen bytes that begin with the text. The first lines are the slots by number, and the text is a slot's fixed text. Behind
-- them stand words, a line each: a slot that takes one of some words says by `least` the line of the first and by `most` how
-- many they are.
use Rattle.std.specs.Prelude.{ℕ, zero, suc, ◌+◌, ◌*◌, ◌/◌, ◌%◌, Bool, cond, List, [], ◌∷◌, leb, length, take, drop, get_or}
use Rattle.text.specs.Bytes.{parts}
use Rattle.text.specs.declared.Class.TheVariants.{Hyphened, Printed}
use Rattle.forms.specs.declared.Kind.{Kind}
use Rattle.forms.specs.Forms.{Form, Slot, nothing, codes, characters, words, amount, date, moment, narrative, pool_narrative, other}

-- words of four letters that stand one behind the other
unfoldable pub words_of : List ℕ → List (List ℕ)
words_of t = parts 4 (length t / 4) t

-- ---- the lines

-- the bytes reach a line where they hold all of it
unfoldable pub reaches : List ℕ → ℕ → Bool
reaches t line = leb (line * 20 + 20) (length t)

unfoldable pub line_in : List ℕ → ℕ → List ℕ
line_in t line = take 20 (drop (line * 20) t)

-- the text of a line, of sixteen bytes at most; a line that the bytes do not reach has none
unfoldable pub text_in : List ℕ → ℕ → List ℕ
text_in t line = let s = line_in t line in cond (reaches t line) (take (get_or s 3 0 % 17) (drop 4 s)) []

-- the words of some lines that stand one behind the other
unfoldable pub words_in : List ℕ → ℕ → ℕ → List (List ℕ)
words_in t first zero = []
words_in t first (suc count) = text_in t first ∷ words_in t (suc first) count

-- ---- the slots

-- the forms in the order of their numbers, from 0
abbrev pub forms_in : List ℕ → ℕ → ℕ → List Form
forms_in t least most =
    nothing
    ∷ codes least most
    ∷ words (words_in t least most)
    ∷ amount
    ∷ date
    ∷ moment
    ∷ narrative
    ∷ pool_narrative
    ∷ characters Hyphened least most
    ∷ characters Printed least most
    ∷ []

-- their kinds in the same order, as the code names them
abbrev pub kinds : List Kind
kinds =
    Kind.Nothing ∷ Kind.Codes ∷ Kind.Words ∷ Kind.Amount ∷ Kind.Date ∷ Kind.Moment
    ∷ Kind.Narrative ∷ Kind.PoolNarrative ∷ Kind.Hyphened ∷ Kind.Printed ∷ []

-- any other number is a form that takes any text
unfoldable pub kind_of : ℕ → Kind
kind_of kind = get_or kinds kind Kind.Other

unfoldable pub form_of : List ℕ → ℕ → ℕ → ℕ → Form
form_of t kind least most = get_or (forms_in t least most) kind other

unfoldable pub form_in : List ℕ → ℕ → Form
form_in t line = let s = line_in t line in cond (reaches t line) (form_of t (get_or s 0 0) (get_or s 1 0) (get_or s 2 0)) other

-- a slot that the bytes do not reach has no fixed text and takes any text
unfoldable pub slot_at : List ℕ → ℕ → Slot
slot_at t slot = record { fixed = text_in t slot; form = form_in t slot }
