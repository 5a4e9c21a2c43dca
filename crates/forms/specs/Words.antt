-- Document 01's code words: the place of a value among some words.
use Rattle.std.specs.Prelude.{ℕ, suc, Bool, cond, List, [], ◌∷◌, ltb, length, get_or}
use Rattle.text.specs.Bytes.{same}

-- the place of a value among words, counted from 0; their number where it is none of them
unfoldable pub word_at : List (List ℕ) → List ℕ → ℕ
word_at [] v = 0
word_at (w ∷ ws) v = cond (same w v) 0 (suc (word_at ws v))

unfoldable pub is_word : List (List ℕ) → List ℕ → Bool
is_word ws v = ltb (word_at ws v) (length ws)

-- the word of a place; none where there is no such place
abbrev pub word : List (List ℕ) → ℕ → List ℕ
word ws place = get_or ws place []
