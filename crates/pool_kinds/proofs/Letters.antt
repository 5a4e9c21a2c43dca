-- A table of letters against what a record has: whether some field with a letter is there, or is not, by letters and fields beside each
-- other (`some-right`); and where there is none, each field with the letter is the other (`none_of`).
-- Assumes nothing.
use Prim.Native.Nat.{ℕ, zero, suc}
use mathlib.Core.Path.{◌≡◌, refl, sym}
use mathlib.Core.Bool.{Bool, true, false, ◌&&◌, not, cond, true≢false, beq}
use mathlib.Core.List.{List, [], ◌∷◌}
use lib.Dec.{eqb}
use lib.ListN.{get_or}
use borrow.Author.Tests.{eq-eqb}
use Rattle.std.specs.List.{list_any, zip}
use Rattle.text.proofs.Bools.{or_left, or_right}
use Rattle.pool_kinds.specs.Kinds.{some_of}

-- what is asked of one field
abbrev pub so : Bool → Bool → Bool
so is h = cond is h (not h)

not_so : (a is h : Bool) → a ≡ true → (a && so is h) ≡ false → h ≡ not is
not_so true true h t f = f
not_so true false true t f = refl
not_so true false false t f = absurd (true≢false f)
not_so false is h t f = absurd (true≢false (sym t))

module _ (letter : ℕ) (is : Bool) where
  pub none_of : (letter ≡ 0 → ⊥) → (ns : List ℕ) (hs : List Bool) → some_of letter is ns hs ≡ false → (i : ℕ) → get_or ns i 0 ≡ letter
      → get_or hs i (not is) ≡ not is
  unfolding some_of
  none_of z [] hs f i e = absurd (z (sym e))
  none_of z (n ∷ ns) [] f i e = refl
  none_of z (n ∷ ns) (h ∷ hs) f zero e = not_so (eqb n letter) is h (eq-eqb n letter e) (or_left (eqb n letter && so is h) _ f)
  none_of z (n ∷ ns) (h ∷ hs) f (suc i) e = none_of z ns hs (or_right (eqb n letter && so is h) _ f) i e

-- ---- the same of the letters and what a record has, beside each other

beq-so : (h is : Bool) → beq h is ≡ so is h
beq-so true true = refl
beq-so true false = refl
beq-so false true = refl
beq-so false false = refl

-- what is asked of a letter and of what a record has
abbrev pub right : ℕ → Bool → ℕ × Bool → Bool
right letter is p = eqb p.0 letter && beq p.1 is

pub some-right : (letter : ℕ) (is : Bool) (ns : List ℕ) (hs : List Bool) → list_any (right letter is) (zip ns hs) ≡ some_of letter is ns hs
unfolding some_of
some-right letter is [] hs = refl
some-right letter is (n ∷ ns) [] = refl
some-right letter is (n ∷ ns) (h ∷ hs) = rw (beq-so h is, some-right letter is ns hs)
