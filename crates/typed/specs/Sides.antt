-- Document 01, BUSE: the side of a trade and its word.
use Rattle.std.specs.Prelude.{ℕ, List, [], ◌∷◌, get_or}
use Rattle.text.specs.Bytes.{bytes}
use Rattle.forms.specs.Words.{word_at, word}
use Rattle.typed.specs.declared.Side.{Side}

abbrev pub sides : List (List ℕ)
sides = bytes "BUYI" ∷ bytes "SELL" ∷ []

-- what a word means; the first of the list, where it is none
unfoldable pub side_in : List ℕ → Side
side_in v = get_or (Side.Buyi ∷ Side.Sell ∷ []) (word_at sides v) Side.Buyi

unfoldable pub side_word : Side → List ℕ
side_word Side.Buyi = word sides 0
side_word Side.Sell = word sides 1
