-- Writing into a buffer that the caller lends: what it holds afterwards, and the place behind what was written.
use Rattle.std.specs.Prelude.{ℕ, ◌+◌, Bool, cond, List, ◌++◌, leb, length, take, drop}

-- a buffer with s written over it from a place on; every other byte keeps its value
unfoldable pub over : List ℕ → ℕ → List ℕ → List ℕ
over buf at s = take at buf ++ (s ++ drop (at + length s) buf)

-- s has room in a buffer from a place on
unfoldable pub fits : List ℕ → ℕ → List ℕ → Bool
fits buf at s = leb (at + length s) (length buf)

-- what a buffer holds after s was put at a place: s where it has room, and else what it held
unfoldable pub placed : List ℕ → ℕ → List ℕ → List ℕ
placed buf at s = cond (fits buf at s) (over buf at s) buf

-- the place behind it; the place itself where nothing was put
unfoldable pub after : List ℕ → ℕ → List ℕ → ℕ
after buf at s = cond (fits buf at s) (at + length s) at
