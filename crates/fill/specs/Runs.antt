-- Parts put one behind the other into a lent buffer, each where it has room: what the buffer holds, and the place behind them.
use Rattle.std.specs.Prelude.{ℕ, List, [], ◌∷◌}
use Rattle.text.specs.Copy.{placed, after}

unfoldable pub over_run : List ℕ → ℕ → List (List ℕ) → List ℕ
over_run buf at [] = buf
over_run buf at (s ∷ ss) = over_run (placed buf at s) (after buf at s) ss

unfoldable pub behind_run : List ℕ → ℕ → List (List ℕ) → ℕ
behind_run buf at [] = at
behind_run buf at (s ∷ ss) = behind_run (placed buf at s) (after buf at s) ss
