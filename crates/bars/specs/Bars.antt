-- What stops a line of a message, whatever stands behind it in its block: a block that may repeat so often and no more often, and a
-- line that is one of some by the word behind its tag.
use Rattle.std.specs.Prelude.{ℕ, ◌/◌, Bool, false, ◌&&◌, ◌||◌, not, List, [], ◌∷◌, length, drop}
use Rattle.text.specs.Bytes.{begins, same, parts}

--   surplus   one block more than may come, by its first line: it gets a number of its own
--   only      a line that begins as the one that stands behind this, and does not go on with one of these words of four letters: it
--             fits no slot
pub data Bar : Type 0 where
  surplus : ℕ → List ℕ → Bar
  only : List ℕ → Bar

-- a value begins with one of some words
unfoldable pub any_front : List (List ℕ) → List ℕ → Bool
any_front [] v = false
any_front (w ∷ ws) v = begins w v || any_front ws v

-- words of four letters that stand one behind the other
unfoldable pub goes_on : List ℕ → List ℕ → Bool
goes_on ws v = any_front (parts 4 (length ws / 4) ws) v

-- a line begins with a text, and does not go on with one of some words
unfoldable pub strays : List ℕ → List ℕ → List ℕ → Bool
strays key ws l = begins key l && not (goes_on ws (drop (length key) l))

-- a line is stopped, with the text that what stands behind the bar begins with
unfoldable pub stops : Bar → List ℕ → List ℕ → Bool
stops (surplus n o) key l = same o l
stops (only ws) key l = strays key ws l

-- and gets this number
unfoldable pub bar_number : Bar → ℕ
bar_number (surplus n o) = n
bar_number (only ws) = 8
