-- Values put one behind the other into a text, and where each of them begins and ends. A slot's value begins where the one before
-- it ends, so that one list of places tells both.
use Rattle.std.specs.Prelude.{ℕ, List, [], ◌∷◌}
use Rattle.text.specs.Copy.{placed, after}

-- where each of some parts ends that are put one behind the other from a place on
unfoldable pub ends : List ℕ → ℕ → List (List ℕ) → List ℕ
ends buf at [] = []
ends buf at (s ∷ ss) = after buf at s ∷ ends (placed buf at s) (after buf at s) ss
