-- The mathematics of the crate's functions, over plain lists and numbers: the ten reasons, one after the other, and one of them by its
-- number; and, for callers, that reasons which are those of their slots are all of them (`reasons-back`).
-- Assumes nothing.
use Prim.Native.Nat.{ℕ, zero, suc, ◌+◌, ◌*◌, ◌≤◌, ◌<◌}
use mathlib.Core.Path.{◌≡◌, refl, sym, ap, ◌∙◌}
use mathlib.Core.List.{List, [], ◌∷◌, ◌++◌, map}
use native.Mathlib.Nat.{add-zero, zero-add, add-suc, suc-add, not-suc-le-zero, le_of_suc-le-suc}
use native.Mathlib.Numerals.{add-one}
use native.Mathlib.Omega.{arith}
use lib.ListN.{length, take, drop, get_or, set, replicate, get_or-map, get_or-eq_default}
use lib.Seq.{paste-suc, ext_get_or}
use Rattle.answer.specs.Records.{reason_of, reasons_of, no_reason, reason_at}
use Rattle.answer.specs.declared.Reason.{Reason}
use Rattle.answer.specs.declared.Answer.{Answer}

-- what is there does not depend on what stands for what is not
within : {A : Type 0} (l : List A) (n : ℕ) (d e : A) → n < length l → get_or l n d ≡ get_or l n e
within [] n d e h = absurd (not-suc-le-zero h)
within (x ∷ l) zero d e h = refl
within (x ∷ l) (suc n) d e h = within l n d e (le_of_suc-le-suc h)

-- ---- the ten, from the slots of their numbers

abbrev up_from : ℕ → ℕ → List ℕ
up_from k zero = []
up_from k (suc n) = k ∷ up_from (suc k) n

up_at : (k n i : ℕ) → i < n → get_or (up_from k n) i 0 ≡ k + i
up_at k zero i h = absurd (not-suc-le-zero h)
up_at k (suc n) zero h = rw add-zero
up_at k (suc n) (suc i) h = up_at (suc k) n i (le_of_suc-le-suc h) ∙ rw (suc-add, add-suc)

module _ (value : ℕ → List ℕ) where
  reason : ℕ → Reason
  reason k = reason_of (value (12 + 2 * k)) (value (13 + 2 * k))

  numbered : reasons_of value ≡ map reason (up_from 0 10)
  unfolding reasons_of reason
  numbered = refl

  at-number : (k : ℕ) → k < 10 → get_or (reasons_of value) k (reason 0) ≡ reason k
  at-number k h = rw numbered (get_or-map reason (up_from 0 10) k 0 ∙ ap reason (up_at 0 10 k h ∙ zero-add k))

  -- the first k, and blank ones behind them
  abbrev pub so_far : ℕ → List Reason
  so_far k = take k (reasons_of value) ++ drop k (replicate {A = Reason} 10 no_reason)

  pub one_more : (k : ℕ) → k < 10 → (now : List Reason) → now ≡ so_far k → (r : Reason) → r ≡ reason_of (value (12 + 2 * k)) (value (13 + 2 * k))
      → set now k r ≡ so_far (k + 1)
  unfolding reasons_of reason
  one_more k h now e r f =
      rw (e, f, ← at-number k h, add-one) (simp zero-add at (paste-suc (replicate {A = Reason} 10 no_reason) 0 (reasons_of value) k (reason 0) (rw zero-add h) h))

  pub all_there : so_far 10 ≡ reasons_of value
  unfolding reasons_of
  all_there = refl

-- ---- one of them

module _ (a : Answer) (n : ℕ) (long : length a.reasons ≡ 10) where
  pub there : n < 10 → (d : Reason) → get_or a.reasons n d ≡ reason_at a n
  unfolding reason_at
  there h d = within a.reasons n d no_reason (omega arith)

  pub none : 10 ≤ n → no_reason ≡ reason_at a n
  unfolding reason_at
  none h = sym (get_or-eq_default a.reasons no_reason {n = n} (omega arith))

-- ---- read back

-- a record of which each reason is that of its two slots has the reasons of the slots
pub reasons-back : (a : Answer) (value : ℕ → List ℕ) → length a.reasons ≡ 10
    → ((k : ℕ) → k < 10 → reason_of (value (12 + 2 * k)) (value (13 + 2 * k)) ≡ reason_at a k) → reasons_of value ≡ a.reasons
unfolding reasons_of reason reason_at
reasons-back a value long each =
    ext_get_or no_reason (reasons_of value) a.reasons (sym long) (λ k h. within (reasons_of value) k no_reason (reason value 0) h ∙ at-number value k h ∙ each k h)
