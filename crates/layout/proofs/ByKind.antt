-- A row of a table's bytes, by the number of its kind, and by its kind.
-- Assumes nothing.
use Prim.Native.Nat.{ℕ, zero, suc, ◌+◌, ◌<◌}
use mathlib.Core.Bool.{true, false}
use mathlib.Core.List.{List}
use mathlib.Core.Path.{◌≡◌, refl, ◌∙◌}
use mathlib.Core.Logic.{◌⊎◌, inl, inr}
use native.Mathlib.Omega.{arith}
use lib.ListN.{get_or, drop, get_or-eq_default}
use Rattle.layout.specs.declared.Kind.{Kind}
use Rattle.bars.specs.Bars.{surplus, only}
use Rattle.layout.specs.Rows.{Row, field, opens, closes, many, mark, back, ends, bar, row_of, kind_of, key_of, first_row}
use Rattle.layout.proofs.Laws.{row_at}

-- a statement of every row holds, where it holds of each kind
pub by_kind : (P : ℕ → Row → Type 0) (s : ℕ) (k : List ℕ) → P 0 ends → P 1 (field true s k) → P 2 (field false s k) → P 3 (opens true k) → P 4 (opens false k)
    → P 5 (closes k) → P 6 (many false true k) → P 7 (many true false k) → P 8 (mark s k) → P 9 (back k) → P 10 (bar (surplus s k)) → P 11 (bar (only k))
    → ((n : ℕ) → 11 < n → P n ends) → (n : ℕ) → P n (row_of n s k)
unfolding row_of
by_kind P s k a b c d e f g h i j p q o zero = a
by_kind P s k a b c d e f g h i j p q o (suc zero) = b
by_kind P s k a b c d e f g h i j p q o (suc (suc zero)) = c
by_kind P s k a b c d e f g h i j p q o (suc (suc (suc zero))) = d
by_kind P s k a b c d e f g h i j p q o (suc (suc (suc (suc zero)))) = e
by_kind P s k a b c d e f g h i j p q o (suc (suc (suc (suc (suc zero))))) = f
by_kind P s k a b c d e f g h i j p q o (suc (suc (suc (suc (suc (suc zero)))))) = g
by_kind P s k a b c d e f g h i j p q o (suc (suc (suc (suc (suc (suc (suc zero))))))) = h
by_kind P s k a b c d e f g h i j p q o (suc (suc (suc (suc (suc (suc (suc (suc zero)))))))) = i
by_kind P s k a b c d e f g h i j p q o (suc (suc (suc (suc (suc (suc (suc (suc (suc zero))))))))) = j
by_kind P s k a b c d e f g h i j p q o (suc (suc (suc (suc (suc (suc (suc (suc (suc (suc zero)))))))))) = p
by_kind P s k a b c d e f g h i j p q o (suc (suc (suc (suc (suc (suc (suc (suc (suc (suc (suc zero))))))))))) = q
by_kind P s k a b c d e f g h i j p q o (suc (suc (suc (suc (suc (suc (suc (suc (suc (suc (suc (suc n)))))))))))) =
    o (suc (suc (suc (suc (suc (suc (suc (suc (suc (suc (suc (suc n)))))))))))) (omega arith)

-- the row of a kind, with its slot and its text
unfoldable pub row_as : Kind → ℕ → List ℕ → Row
row_as Kind.End slot key = ends
row_as Kind.Field slot key = field true slot key
row_as Kind.MayField slot key = field false slot key
row_as Kind.Opens slot key = opens true key
row_as Kind.MayOpen slot key = opens false key
row_as Kind.Closes slot key = closes key
row_as Kind.Many slot key = many false true key
row_as Kind.OneMore slot key = many true false key
row_as Kind.Mark slot key = mark slot key
row_as Kind.ManyClose slot key = back key
row_as Kind.Surplus slot key = bar (surplus slot key)
row_as Kind.Only slot key = bar (only key)

row_is : (n slot : ℕ) (key : List ℕ) → row_of n slot key ≡ row_as (kind_of n) slot key
unfolding row_as kind_of
row_is n slot key =
    by_kind (λ n r. r ≡ row_as (kind_of n) slot key) slot key refl refl refl refl refl refl refl refl refl refl refl refl
    (λ n h. rw (get_or-eq_default _ Kind.End h)) n

-- a number is none of 1 up to another
unfoldable pub NoneTo : ℕ → ℕ → Type 0
NoneTo zero k = Unit
NoneTo (suc n) k = NoneTo n k × (k ≡ suc n → ⊥)

pub none-past : (n k : ℕ) → NoneTo n k → (k ≡ 0) ⊎ (n < k)
unfolding NoneTo
none-past zero zero h = inl refl
none-past zero (suc k) h = inr (omega arith)
none-past (suc n) k h = go (none-past n k h.0)
  where
    go : (k ≡ 0) ⊎ (n < k) → (k ≡ 0) ⊎ (suc n < k)
    go (inl e) = inl e
    go (inr l) = let o = h.1 in inr (omega arith)

-- the row whose bytes begin at a place, by its kind and its text
pub of_kind : (t : List ℕ) (at : ℕ) (kind : Kind) → kind ≡ kind_of (get_or t at 0) → (k : Kind) → kind ≡ k → (key : List ℕ) → key ≡ key_of (drop at t)
    → first_row (drop at t) ≡ row_as k (get_or t (at + 1) 0) key
of_kind t at kind e k f key g = row_at t at ∙ row_is _ _ _ ∙ rw (← e, f, ← g)

-- a number that is none of 1 to 11 is the end of many blocks
pub none_is : (n : ℕ) → NoneTo 11 n → Kind.End ≡ kind_of n
unfolding kind_of
none_is n h = elim (none-past 11 n h) [ inl e ↦ rw e | inr l ↦ rw (get_or-eq_default _ Kind.End l) ]
