-- Document 01, "Plain form": blocks that may stand in any order stand in one. Said of lines, and of nothing else about them: the
-- blocks are picked out by their first line and the text that their second line begins with, and put in order in the place
-- where they stood.
use Rattle.std.specs.Prelude.{ℕ, Bool, false, ◌&&◌, ◌||◌, cond, List, [], ◌∷◌, ◌++◌}
use Rattle.text.specs.Bytes.{begins, same}

-- such blocks: their first and their last line, and the texts that tell them apart, in order
pub record Group : Type 0 where
  pub opening : List ℕ
  pub closing : List ℕ
  pub keys : List (List ℕ)

-- the lines before the first that is o
unfoldable pub ahead : List ℕ → List (List ℕ) → List (List ℕ)
ahead o [] = []
ahead o (l ∷ ls) = let rest = ahead o ls in cond (same o l) [] (l ∷ rest)

-- the lines up to the first that is c, and that one
unfoldable pub through : List ℕ → List (List ℕ) → List (List ℕ)
through c [] = []
through c (l ∷ ls) = let rest = through c ls in l ∷ cond (same c l) [] rest

unfoldable pub first_begins : List ℕ → List (List ℕ) → Bool
first_begins k [] = false
first_begins k (l ∷ ls) = begins k l

-- the block whose first line is o and whose second begins with k
unfoldable pub block_with : List ℕ → List ℕ → List ℕ → List (List ℕ) → List (List ℕ)
block_with o c k [] = []
block_with o c k (l ∷ ls) = let rest = block_with o c k ls in cond (same o l && first_begins k ls) (l ∷ through c ls) rest

unfoldable pub blocks_with : List ℕ → List ℕ → List (List ℕ) → List (List ℕ) → List (List ℕ)
blocks_with o c [] ls = []
blocks_with o c (k ∷ ks) ls = block_with o c k ls ++ blocks_with o c ks ls

unfoldable pub any_line : List ℕ → List (List ℕ) → Bool
any_line c [] = false
any_line c (l ∷ ls) = same c l || any_line c ls

-- the lines behind the last that is c; none where none is
unfoldable pub past : List ℕ → List (List ℕ) → List (List ℕ)
past c [] = []
past c (l ∷ ls) = let rest = past c ls in cond (any_line c ls) rest (cond (same c l) ls [])

unfoldable pub arranged : Group → List (List ℕ) → List (List ℕ)
arranged g ls = ahead g.opening ls ++ (blocks_with g.opening g.closing g.keys ls ++ past g.closing ls)

-- each of some kinds of blocks in its order
unfoldable pub in_order : List Group → List (List ℕ) → List (List ℕ)
in_order [] ls = ls
in_order (g ∷ gs) ls = arranged g (in_order gs ls)
