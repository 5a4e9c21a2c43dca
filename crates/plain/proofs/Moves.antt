-- The mathematics of the crate's loop over plain lists: the amounts moved in one slot after the other.
-- Assumes nothing.
use Prim.Native.Nat.{ℕ, ◌+◌, ◌≤◌, ◌<◌}
use mathlib.Core.Path.{◌≡◌}
use mathlib.Core.List.{List}
use native.Mathlib.Numerals.{add-one}
use lib.ListN.{length, drop, get_or, set, drop_of_length-le}
use lib.Seq.{drop-cons}
use Rattle.format.proofs.Lent.{shortest-start, shortest-end}
use Rattle.format.proofs.Moved.{Moves, stay, move}

module _ (m slots starts₀ ends₀ : List ℕ) where
  -- moving in, from these places, what is still ahead moves in all from the first places
  abbrev pub Ahead : ℕ → List ℕ → List ℕ → Type 0
  Ahead i starts ends =
      (starts' ends' : List ℕ) → Moves m (drop i slots) starts ends starts' ends'
      → Moves m slots starts₀ ends₀ starts' ends'

  module _ {i : ℕ} {starts ends : List ℕ} (ahead : Ahead i starts ends) where
    pub next : i < length slots → {k : ℕ} → k ≡ get_or slots i 0 → {starts' ends' : List ℕ}
        → (starts' ≡ set starts k (shortest-start m starts ends k)) × (ends' ≡ set ends k (shortest-end m starts ends k))
        → Ahead (i + 1) starts' ends'
    next more is moved starts'' ends'' rest = ahead starts'' ends'' (rw (drop-cons slots i 0 more, ← add-one i, ← is) (move moved rest))

    pub done : length slots ≤ i → Moves m slots starts₀ ends₀ starts ends
    done h = ahead starts ends (rw (drop_of_length-le slots h) stay)
