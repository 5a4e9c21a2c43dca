-- Document 01: "c" means an upper-case letter or a digit. The classes of bytes that its values, and those of the requests of document 02, are made of.
use Rattle.std.specs.Prelude.{ℕ, Bool, true, false, ◌&&◌, ◌||◌, List, [], ◌∷◌, leb, eqb, length}
use Rattle.text.specs.declared.Class.{Class}
use Rattle.text.specs.declared.Class.TheVariants.{C, Digit, Upper, Hyphened, Printed, Zero}

unfoldable pub is_between : ℕ → ℕ → ℕ → Bool
is_between low high b = leb low b && leb b high

-- 0 to 9
unfoldable pub is_digit : ℕ → Bool
is_digit b = is_between 48 57 b

-- A to Z
unfoldable pub is_upper : ℕ → Bool
is_upper b = is_between 65 90 b

unfoldable pub is_c : ℕ → Bool
is_c b = is_upper b || is_digit b

-- c or `-`
unfoldable pub is_hyphened : ℕ → Bool
is_hyphened b = is_c b || eqb b 45

-- 20 to 7E hex
abbrev pub is_printed : ℕ → Bool
is_printed b = is_between 32 126 b

-- a byte is of a class; `Zero` is the byte that stands behind the text of a record
unfoldable pub in_class : Class → ℕ → Bool
in_class C b = is_c b
in_class Digit b = is_digit b
in_class Upper b = is_upper b
in_class Hyphened b = is_hyphened b
in_class Printed b = is_printed b
in_class Zero b = eqb b 0

unfoldable pub all_in : Class → List ℕ → Bool
all_in k [] = true
all_in k (b ∷ s) = in_class k b && all_in k s

-- from a least to a most number of bytes of a class
abbrev pub is_all : Class → ℕ → ℕ → List ℕ → Bool
is_all k least most part = leb least (length part) && (leb (length part) most && all_in k part)

-- from a least to a most number of c
unfoldable pub is_code : ℕ → ℕ → List ℕ → Bool
is_code least most part = is_all C least most part

-- every byte is from 20 to 7E hex
unfoldable pub printed : List ℕ → Bool
printed [] = true
printed (b ∷ s) = is_printed b && printed s

-- the classes whose bytes are all from 20 to 7E hex
unfoldable pub printed_class : Class → Bool
printed_class C = true
printed_class Digit = true
printed_class Upper = true
printed_class Hyphened = true
printed_class Printed = true
printed_class Zero = false

unfoldable pub all_printed : List (List ℕ) → Bool
all_printed [] = true
all_printed (s ∷ ss) = printed s && all_printed ss
