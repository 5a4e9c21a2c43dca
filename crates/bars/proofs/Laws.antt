-- The mathematics of the crate's functions: the words of a bar, one after the other, and a line that strays.
-- Assumes nothing.
use Prim.Native.Nat.{ℕ, suc, ◌/◌, ◌≤◌, ◌<◌}
use mathlib.Core.Path.{◌≡◌, ap, ◌∙◌}
use mathlib.Core.Bool.{true, false, ◌||◌}
use mathlib.Core.List.{List, ◌++◌}
use native.Mathlib.Omega.{arith}
use lib.Seq.{take_at, drop_at}
use lib.ListN.{length-append, length}
use Rattle.text.specs.Bytes.{begins, parts}
use Rattle.text.proofs.Laws.{begins-length}
use Rattle.bars.specs.Bars.{any_front, goes_on}

-- words from the first on: that word, and those behind it
pub first_word : (ws w rest v : List ℕ) → ws ≡ w ++ rest → length w ≡ 4 → (begins w v || goes_on rest v) ≡ goes_on ws v
unfolding goes_on any_front parts
first_word ws w rest v e n =
    let some : length ws / 4 ≡ suc (length rest / 4) = let l = ap length e ∙ length-append w rest in omega arith in
    rw (some, e, take_at w rest 4 n, drop_at w rest 4 n)

pub no_word : (ws v : List ℕ) → length ws < 4 → false ≡ goes_on ws v
unfolding goes_on any_front parts
no_word ws v h = let none : length ws / 4 ≡ 0 = omega arith in rw none

-- a line that begins with a text
pub key_within : (key l : List ℕ) → begins key l ≡ true → length key ≤ length l
key_within = begins-length
