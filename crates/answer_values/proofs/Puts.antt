-- The mathematics of the crate's functions, over plain lists and numbers: the values of the reasons put one after the other, and how many
-- values there are.
-- Assumes nothing.
use Prim.Native.Nat.{ℕ, zero, suc, ◌+◌, ◌*◌}
use mathlib.Core.Path.{◌≡◌, refl, ap, ◌∙◌}
use mathlib.Core.List.{List, [], ◌∷◌, ◌++◌, flatten}
use native.Mathlib.Nat.{add-zero, zero-add, add-suc, suc-add}
use native.Mathlib.Numerals.{add-one}
use native.Mathlib.Omega.{arith}
use lib.ListN.{length}
use lib.Seq.{length-sets}
use Rattle.text.specs.Texts.{contents}
use Rattle.remark.specs.Remarks.{contents as remark_text}
use Rattle.fill.specs.Runs.{over_run, behind_run}
use Rattle.fill.specs.Places.{ends}
use Rattle.fill.proofs.Places.{Stored, more}
use Rattle.answer.specs.Records.{reason_at}
use Rattle.answer.specs.declared.Reason.{Reason}
use Rattle.answer.specs.declared.Answer.{Answer}
use Rattle.answer_values.specs.Values.{reason_values, values}

-- the two values of a reason
abbrev pub both : Reason → List (List ℕ)
both r = contents r.code ∷ remark_text r.text ∷ []

-- one reason more has its two values behind the others
last-behind : (a : Answer) (number n : ℕ) → reason_values a number (suc n) ≡ reason_values a number n ++ both (reason_at a (number + n))
unfolding reason_values
last-behind a number zero = rw add-zero
last-behind a number (suc n) =
    rw (add-suc, ← suc-add)
    (ap (λ (vs : List (List ℕ)). contents (reason_at a number).code ∷ remark_text (reason_at a number).text ∷ vs) (last-behind a (suc number) n))

many-reasons : (a : Answer) (number n : ℕ) → length (reason_values a number n) ≡ 2 * n
unfolding reason_values
many-reasons a number zero = refl
many-reasons a number (suc n) = let l = many-reasons a (suc number) n in omega arith

pub many-values : (a : Answer) → length (values a) ≡ 34
unfolding values reason_values
many-values a = refl

-- behind the thirteen places before them the ten reasons have twenty
pub ten-reasons : (a : Answer) → 33 ≡ 13 + length (reason_values a 0 10)
ten-reasons a = rw (many-reasons a 0 10)

-- ---- the loop: so many reasons were put, and then one more

module _ (a : Answer) (buf ps : List ℕ) (at : ℕ) where
  abbrev pub SoFar : ℕ → ℕ → List ℕ → List ℕ → Type 0
  SoFar n r now qs = Stored buf ps at 13 (reason_values a 0 n) r now qs (55 * n)

  pub none-put : SoFar 0 at buf ps
  unfolding reason_values over_run behind_run ends flatten
  none-put = (refl, refl, refl, omega arith)

  pub one_more : (n : ℕ) {r₁ r₂ : ℕ} {b₁ b₂ p₁ p₂ : List ℕ} → SoFar n r₁ b₁ p₁ → (r : Reason) → r ≡ reason_at a n
      → Stored b₁ p₁ r₁ (13 + 2 * n) (both r) r₂ b₂ p₂ 55 → SoFar (n + 1) r₂ b₂ p₂
  one_more n p r e q =
      let vs : reason_values a 0 (n + 1) ≡ reason_values a 0 n ++ both r = rw (e, add-one n) (last-behind a 0 n ∙ rw (zero-add n)) in
      let m = more buf ps at 13 (13 + 2 * n) (reason_values a 0 n) (both r) (55 * n) 55 (rw (many-reasons a 0 n)) p q in
      let few = m.3 in
      rw vs (m.0, m.1, m.2, omega arith)

  -- the places are as many as before
  pub as_many : (n : ℕ) {r : ℕ} {now qs : List ℕ} → SoFar n r now qs → length qs ≡ length ps
  as_many n p = ap length p.2 ∙ length-sets ps 13 (ends buf at (reason_values a 0 n))
