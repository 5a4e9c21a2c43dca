-- The mathematics of the crate's functions, over plain lists and numbers: how many bytes 23G and 25D have at most.
-- Assumes nothing.
use Prim.Native.Nat.{ℕ, zero, suc, ◌≤◌}
use mathlib.Core.Path.{◌≡◌, refl}
use mathlib.Core.Bool.{Bool, true, false, ◌&&◌, cond}
use mathlib.Core.List.{List, [], ◌∷◌}
use native.Mathlib.Omega.{arith}
use lib.Dec.{leb}
use lib.ListN.{length, get_or}
use borrow.Author.Tests.{leb-true}
use Rattle.text.specs.Bytes.{bytes}
use Rattle.text.proofs.Laws.{and_left, and_right}
use Rattle.status.specs.Statuses.{statuses, status_text}
use Rattle.status.specs.declared.Status.{Status}
use Rattle.answer.specs.declared.Answer.{Answer}
use Rattle.answer_rules.specs.Rules.{of_cancel, function_of}

pub function-most : (a : Answer) → length (function_of a) ≤ 9
unfolding function_of bytes
function-most a = go a.copy (of_cancel a.status)
  where
    go : (copy cancel : Bool) → length (cond copy (bytes "CAST/COPY") (cond cancel (bytes "CAST") (bytes "INST"))) ≤ 9
    go true cancel = omega arith
    go false true = omega arith
    go false false = omega arith

-- words of which none is longer than so many bytes
unfoldable all_short : ℕ → List (List ℕ) → Bool
all_short n [] = true
all_short n (w ∷ ws) = leb (length w) n && all_short n ws

short-at : (n : ℕ) (ws : List (List ℕ)) → all_short n ws ≡ true → (k : ℕ) → length (get_or ws k []) ≤ n
unfolding all_short
short-at n [] e k = omega arith
short-at n (w ∷ ws) e zero = leb-true (length w) n (and_left _ _ e)
short-at n (w ∷ ws) e (suc k) = short-at n ws (and_right (leb (length w) n) _ e) k

pub status-most : (s : Status) → length (status_text s) ≤ 14
unfolding status_text statuses all_short bytes
status-most s = short-at 14 statuses refl s.0
