-- The most that a place holds, and how long the bytes of a number are.
-- Assumes nothing.
use Prim.Native.Nat.{ℕ, zero, suc, ◌≤◌, ◌<◌}
use mathlib.Core.Path.{◌≡◌, refl, ap}
use mathlib.Core.Bool.{Bool, true, false, cond}
use native.Mathlib.Omega.{arith}
use lib.Dec.{leb}
use lib.ListN.{length}
use borrow.Author.Tests.{leb-true, le-leb, lt-leb}
use Rattle.packed.specs.Packed.{at_most, number_bytes}

-- ---- the most that a place holds

module _ (most n : ℕ) where
  pub at_most_in : n ≤ most → at_most most n ≡ n
  unfolding at_most
  at_most_in h = rw (le-leb n most h)

  pub at-most-out : most < n → at_most most n ≡ most
  unfolding at_most
  at-most-out h = rw (lt-leb n most h)

  pub at-most-le : at_most most n ≤ most
  unfolding at_most
  at-most-le = go (leb n most) refl
    where
      go : (b : Bool) → leb n most ≡ b → cond b n most ≤ most
      go true e = let h = leb-true n most e in h
      go false e = omega arith

-- ---- a number and its bytes

pub length-number : (width n : ℕ) → length (number_bytes width n) ≡ width
unfolding number_bytes
length-number zero n = refl
length-number (suc width) n = ap suc (length-number width _)
