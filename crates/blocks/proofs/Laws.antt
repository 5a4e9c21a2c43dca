-- What callers cite: of a message whose nesting is right, no more than eight blocks are ever open.
-- Assumes nothing.
use Prim.Native.Nat.{ℕ, suc, ◌≤◌}
use mathlib.Core.Path.{◌≡◌, refl}
use mathlib.Core.Bool.{Bool, true, false, cond}
use mathlib.Core.List.{List, [], ◌∷◌, ◌++◌}
use native.Mathlib.Omega.{arith}
use lib.Dec.{ltb}
use lib.ListN.{length, drop}
use borrow.Author.Tests.{ltb-true}
use Rattle.text.specs.Bytes.{same}
use Rattle.lines.specs.Verdicts.{refused}
use Rattle.lines.specs.Lines.{lines_of}
use Rattle.blocks.specs.Blocks.{name_of, role_of, Turn, goes, stops, over, ending, opening, closing, turn, follow, nest, nest_pass}
use Rattle.blocks.specs.declared.Role.{Role}
use Rattle.blocks.specs.declared.Role.TheVariants.{End, Opens, Closes, Field, Wrong}

-- what lines leave open, or where they stop
unfoldable pub after : Turn → List (List ℕ) → Turn
after t [] = t
after (goes blocks) (l ∷ ls) = after (turn (role_of l) blocks (name_of l)) ls
after (stops number) (l ∷ ls) = stops number
after over (l ∷ ls) = over

-- nothing wrong was found, and at most eight blocks are open
abbrev pub Held : Turn → Type 0
Held (goes blocks) = length blocks ≤ 8
Held (stops number) = ⊥
Held over = Unit

-- a turn of eight blocks at most leaves eight at most, or stops with a number
abbrev Fine : Turn → Type 0
Fine (goes blocks) = length blocks ≤ 8
Fine (stops number) = 1 ≤ number
Fine over = Unit

turn-fine : (role : Role) (blocks : List (List ℕ)) (name : List ℕ) → length blocks ≤ 8 → Fine (turn role blocks name)
unfolding turn ending opening closing
turn-fine End [] name h = tt
turn-fine End (b ∷ blocks) name h = omega arith
turn-fine Opens blocks name h = on (ltb (length blocks) 8) refl
  where
    on : (t : Bool) → ltb (length blocks) 8 ≡ t → Fine (cond t (goes (name ∷ blocks)) (stops 7))
    on true e = ltb-true _ _ e
    on false e = omega arith
turn-fine Closes [] name h = omega arith
turn-fine Closes (b ∷ blocks) name h = on (same b name)
  where
    on : (t : Bool) → Fine (cond t (goes blocks) (stops 6))
    on true = omega arith
    on false = omega arith
turn-fine Field blocks name h = h
turn-fine Wrong blocks name h = omega arith

held : (front rest : List (List ℕ)) (n : ℕ) (t : Turn) → Fine t → (follow n t (λ blocks. nest (suc n) blocks (front ++ rest))).number ≡ 0 → Held (after t front)
unfolding follow nest after refused
held [] rest n (goes blocks) h z = h
held [] rest n (stops number) h z = omega arith
held [] rest n over h z = tt
held (l ∷ front) rest n (goes blocks) h z = held front rest (suc n) (turn (role_of l) blocks (name_of l)) (turn-fine (role_of l) blocks (name_of l) h) z
held (l ∷ front) rest n (stops number) h z = omega arith
held (l ∷ front) rest n over h z = tt

-- at every place of a message whose nesting is right
pub never-nine : (m : List ℕ) (front rest : List (List ℕ)) → (nest_pass m).number ≡ 0 → drop 4 (lines_of m) ≡ front ++ rest → Held (after (goes []) front)
unfolding nest_pass follow
never-nine m front rest z e = held front rest 4 (goes []) (omega arith) (rw e at z)
