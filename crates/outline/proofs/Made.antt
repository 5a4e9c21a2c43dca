-- An array whose elements are what calls of a function in turn gave, one by one, where each call gives what a rule says of its number and
-- leaves the function as it was.
-- Assumes nothing.
use Prim.Native.Nat.{ℕ, zero, suc, ◌+◌, ◌≤◌, ◌<◌}
use mathlib.Core.Path.{◌≡◌, refl, ap, subst, ◌∙◌}
use mathlib.Core.Bool.{Bool, true, false}
use mathlib.Core.List.{List, map}
use native.Mathlib.Numerals.{add-one}
use native.Mathlib.Omega.{arith}
use lib.Dec.{eqb}
use lib.ListN.{get_or}
use borrow.Author.Tests.{eqb-true, eqb-false}
use denote.Param.Members.{Mut, Called}
use Rattle.std.specs.Array.{IsFromFnResult, IsFromFnResultFrom}
use Rattle.std.specs.List.{range_with_len}
use Rattle.std.proofs.lemmas.List.FromFn.{fill_by_all}
use Rattle.format.specs.Outline.{numbers}

numbers-are : (i n : ℕ) → range_with_len i n ≡ numbers i n
unfolding numbers
numbers-are i zero = refl
numbers-are i (suc n) = rw (add-one, numbers-are (suc i) n)

module _ {F : Type 0} (g : Mut F (ℕ × Unit {0}) ℕ) (f : F) (h : ℕ → ℕ) (step : (i y : ℕ) (q : F) → Called g f (i, tt) y q → (y ≡ h i) × (q ≡ f)) where
  made-at : (ys : List ℕ) (i n : ℕ) → IsFromFnResultFrom g f ys i n → (j : ℕ) → i ≤ j → j < i + n → get_or ys j 0 ≡ h j
  made-at ys i zero r j l u = absurd (omega arith)
  made-at ys i (suc n) (q, y, is, call, rest) j l u =
      let s = step i y q call in
      go (eqb i j) refl s.0 (made-at ys (i + 1) n (subst (λ (p : F). IsFromFnResultFrom g p ys (i + 1) n) s.1 rest) j)
    where
      go : (b : Bool) → eqb i j ≡ b → y ≡ h i → (i + 1 ≤ j → j < i + 1 + n → get_or ys j 0 ≡ h j) → get_or ys j 0 ≡ h j
      go true e v more = rw (← (eqb-true i j e)) (is.1 0 ∙ v)
      go false e v more = let d = eqb-false i j e in more (omega arith) (omega arith)

  pub made : (ys : List ℕ) (n : ℕ) → IsFromFnResult g f ys n → ys ≡ map h (numbers 0 n)
  made ys n r = fill_by_all h ys n 0 r.long (λ k l. made-at ys 0 n r.each k (omega arith) (omega arith)) ∙ ap (map h) (numbers-are 0 n)
