-- The rule for the days of a month gives what the list of them gave, for every year and every number.
-- Assumes nothing.
use Prim.Native.Nat.{ℕ, zero, suc, ◌<◌, ◌≤◌}
use mathlib.Core.Path.{◌≡◌, refl}
use mathlib.Core.Bool.{Bool, true, false, ◌&&◌, not, cond}
use native.Mathlib.Nat.{not-suc-le-zero}
use native.Mathlib.Omega.{arith}
use lib.Dec.{eqb, leb}
use lib.ListN.{get_or, get_or-eq_default}
use borrow.Author.Tests.{ne_eqb, eqb-true, eqb-false, le-leb, lt-leb, leb-true, leb-false}
use Rattle.text.proofs.Laws.{and_left, and_right}
use Rattle.calendar.specs.Dates.{leap, is_month, february, is_long, month_length}
use Rattle.calendar.specs.Cases.{lengths, listed, AsListed}

-- what is right of each number below another is right of all of them
each : (ℕ → Bool) → ℕ → Bool
each t zero = true
each t (suc n) = t n && each t n

each_at : (t : ℕ → Bool) (n : ℕ) → each t n ≡ true → (m : ℕ) → m < n → t m ≡ true
unfolding each
each_at t zero e m h = absurd (not-suc-le-zero h)
each_at t (suc n) e m h = go (each_at t n (and_right (t n) _ e) m) (eqb m n) refl
  where
    go : (m < n → t m ≡ true) → (b : Bool) → eqb m n ≡ b → t m ≡ true
    go ih true f = rw (eqb-true m n f) (and_left _ _ e)
    go ih false f = let d = eqb-false m n f in ih (omega arith)

-- both sides of a number in a year that is a leap year or not
ruled : Bool → ℕ → ℕ
ruled b m = cond (not (is_month m)) 0 (cond (eqb m 2) (cond b 29 28) (cond (is_long m) 31 30))

held : Bool → ℕ → ℕ
held b m = cond (eqb m 2 && b) 29 (get_or lengths m 0)

months-agree : (b : Bool) (m : ℕ) → m ≤ 12 → ruled b m ≡ held b m
unfolding each is_month is_long lengths ruled held
months-agree true m h = eqb-true _ _ (each_at (λ n. eqb (ruled true n) (held true n)) 13 refl m (omega arith))
months-agree false m h = eqb-true _ _ (each_at (λ n. eqb (ruled false n) (held false n)) 13 refl m (omega arith))

others-agree : (b : Bool) (m : ℕ) → 12 < m → ruled b m ≡ held b m
unfolding is_month ruled held lengths
others-agree b m h =
    let e : m ≡ 2 → ⊥ = λ f. omega arith in
    rw (le-leb 1 m (omega arith), lt-leb m 12 h, ne_eqb m 2 e, get_or-eq_default lengths 0 h)

pub as-listed : AsListed
unfolding month_length february listed ruled held
as-listed y m = go (leb m 12) refl
  where
    go : (b : Bool) → leb m 12 ≡ b → month_length y m ≡ listed y m
    go true e = months-agree (leap y) m (leb-true m 12 e)
    go false e = others-agree (leap y) m (leb-false m 12 e)
