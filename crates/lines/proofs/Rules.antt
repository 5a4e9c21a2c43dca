-- What callers cite: rules of line 0, each a test with its number, one after the other. A rule that is broken stops the chain and one that
-- is kept leaves it to the next; and of a list of rules what holds of each of its numbers holds of the first that is broken.
-- Assumes nothing.
use Prim.Native.Nat.{ℕ, ◌≤◌}
use mathlib.Core.Path.{◌≡◌, refl, sym, ap, ◌∙◌}
use mathlib.Core.Bool.{Bool, true, false, ◌&&◌, not}
use mathlib.Core.List.{List, [], ◌∷◌}
use native.Mathlib.Omega.{arith}
use lib.Dec.{leb, eqb}
use borrow.Author.Tests.{leb-true, eqb-false, not-true}
use Rattle.text.proofs.Bools.{of-both}
use Rattle.text.proofs.Laws.{and_left, and_right}
use Rattle.lines.specs.Verdicts.{refused, pass, then, when}
use Rattle.lines.specs.declared.Verdict.{Verdict}
use Rattle.lines.proofs.Laws.{then-zero}

-- a rule of one kind is that of every record of the kind
pub by_kind : {K T : Type 0} (rule : K → T → Bool) (t : T) (b : Bool) {j k : K} → j ≡ k → b ≡ rule k t → b ≡ rule j t
by_kind rule t b e h = h ∙ ap (λ (i : _). rule i t) (sym e)

-- ---- one rule

module _ (b : Bool) (n : ℕ) where
  -- the last one
  pub broken : b ≡ true → refused n 0 ≡ when b n
  unfolding when
  broken e = rw e

  pub kept : b ≡ false → pass ≡ when b n
  unfolding when
  kept e = rw e

  -- one that gives 0 is kept
  pub when-zero : eqb n 0 ≡ false → (when b n).number ≡ 0 → b ≡ false
  unfolding when refused
  when-zero f e = go b e
    where
      go : (x : Bool) → (when x n).number ≡ 0 → x ≡ false
      go true z = absurd (eqb-false n 0 f z)
      go false z = refl

  -- one in front of others
  module _ (rest : Verdict) where
    pub stops : b ≡ true → eqb n 0 ≡ false → refused n 0 ≡ then (when b n) rest
    unfolding when then refused
    stops e f = rw (e, f)

    pub goes_on : b ≡ false → rest ≡ then (when b n) rest
    unfolding when then pass refused
    goes_on e = rw e

-- ---- a list of rules

unfoldable pub chained : List (Bool × ℕ) → Verdict
chained [] = pass
chained (r ∷ []) = when r.0 r.1
chained (r ∷ s ∷ rs) = then (when r.0 r.1) (chained (s ∷ rs))

-- a test of each number
unfoldable pub numbered : (ℕ → Bool) → List (Bool × ℕ) → Bool
numbered test [] = true
numbered test (r ∷ rs) = test r.1 && numbered test rs

-- what holds of two passes holds of both in turn
pub then-of : (P : Verdict → Type 0) (v w : Verdict) → P v → P w → P (then v w)
unfolding then
then-of P v w h k = of-both P (eqb v.number 0) (λ _. k) (λ _. h)

-- what holds of nothing wrong, and of each of the numbers, holds of the rules
module _ (P : Verdict → Type 0) (test : ℕ → Bool) (good : P pass) (each : (n : ℕ) → test n ≡ true → P (refused n 0)) where
  when-by : (b : Bool) (n : ℕ) → test n ≡ true → P (when b n)
  unfolding when
  when-by true n h = each n h
  when-by false n h = good

  pub chained-by : (rs : List (Bool × ℕ)) → numbered test rs ≡ true → P (chained rs)
  unfolding chained numbered
  chained-by [] h = good
  chained-by (r ∷ []) h = when-by r.0 r.1 (and_left _ _ h)
  chained-by (r ∷ s ∷ rs) h = then-of P _ _ (when-by r.0 r.1 (and_left _ _ h)) (chained-by (s ∷ rs) (and_right (test r.1) _ h))

-- they have line 0
pub chained-line : (rs : List (Bool × ℕ)) → (chained rs).line ≡ 0
unfolding pass refused numbered
chained-line rs = chained-by (λ v. v.line ≡ 0) (λ n. true) refl (λ n e. refl) rs (all rs)
  where
    all : (rs : List (Bool × ℕ)) → numbered (λ n. true) rs ≡ true
    all [] = refl
    all (r ∷ rs) = all rs

-- they never give a number that is none of theirs
abbrev pub Never : ℕ → Verdict → Type 0
Never k v = v.number ≡ k → ⊥

pub chained-never : (k : ℕ) → eqb 0 k ≡ false → (rs : List (Bool × ℕ)) → numbered (λ n. not (eqb n k)) rs ≡ true → Never k (chained rs)
unfolding pass refused
chained-never k z = chained-by (Never k) (λ n. not (eqb n k)) (eqb-false 0 k z) (λ n h. eqb-false n k (not-true _ h))

-- nor one above all of theirs
pub chained-few : (most : ℕ) (rs : List (Bool × ℕ)) → numbered (λ n. leb n most) rs ≡ true → (chained rs).number ≤ most
unfolding pass refused
chained-few most = chained-by (λ v. v.number ≤ most) (λ n. leb n most) (omega arith) (λ n h. leb-true n most h)

-- where they pass, each is kept
abbrev pub Kept : List (Bool × ℕ) → Type 0
Kept [] = Unit
Kept (r ∷ rs) = (r.0 ≡ false) × Kept rs

pub chained-kept : (rs : List (Bool × ℕ)) → numbered (λ n. not (eqb n 0)) rs ≡ true → (chained rs).number ≡ 0 → Kept rs
unfolding chained numbered
chained-kept [] h z = tt
chained-kept (r ∷ []) h z = (when-zero r.0 r.1 (not-true _ (and_left _ _ h)) z, tt)
chained-kept (r ∷ s ∷ rs) h z =
    let p = then-zero (when r.0 r.1) (chained (s ∷ rs)) z in
    (when-zero r.0 r.1 (not-true _ (and_left _ _ h)) p.0, chained-kept (s ∷ rs) (and_right (not (eqb r.1 0)) _ h) p.1)
