-- What callers cite: the parts of a narrative, one behind the other, and what each is.
-- Assumes nothing.
use Prim.Native.Nat.{ℕ, ◌≤◌, ◌<◌}
use mathlib.Core.Path.{◌≡◌, refl, sym, ap, ◌∙◌}
use mathlib.Core.Bool.{Bool, true, false, cond}
use mathlib.Core.List.{List, [], ◌∷◌, ◌++◌}
use native.Mathlib.Omega.{arith}
use lib.Dec.{ltb}
use lib.ListN.{length, take, drop, get_or, take-append-drop, get_or-eq_default}
use lib.Seq.{drop-drop, drop-cons}
use borrow.Author.Tests.{leb-true, ltb-true, ltb-false}
use Rattle.text.specs.Bytes.{bytes, begins}
use Rattle.text.specs.Classes.{is_digit, is_between}
use Rattle.text.proofs.Laws.{and_left, and_right, begins-is}
use Rattle.reason.specs.Reason.{good_reason}
use Rattle.reason.proofs.Laws.{reason_part, reason-is}
use Rattle.forms.specs.Words.{is_word}
use Rattle.forms.specs.Narrative.{services, service_in, has_period, period_in, behind_period, good_period, is_narrative}

-- a period as it stands, and nothing where there is none
abbrev pub period_part : List ℕ → List ℕ
period_part v = cond (has_period v) (bytes "/GUPP" ++ period_in v ∷ []) []

module _ (v : List ℕ) (is : is_narrative v ≡ true) where
  pub worded : is_word services (service_in v) ≡ true
  unfolding is_narrative
  worded = and_left _ _ (and_right (begins (bytes "/TDSV") v) _ is)

  good-period : good_period v ≡ true
  unfolding is_narrative
  good-period = and_left _ _ (and_right (is_word services (service_in v)) _ (and_right (begins (bytes "/TDSV") v) _ is))

  pub good-reason : good_reason (behind_period v) ≡ true
  unfolding is_narrative
  good-reason = and_right (good_period v) _ (and_right (is_word services (service_in v)) _ (and_right (begins (bytes "/TDSV") v) _ is))

  pub front : v ≡ bytes "/TDSV" ++ (service_in v ++ drop 9 v)
  unfolding is_narrative service_in bytes
  front =
      let a : v ≡ bytes "/TDSV" ++ drop 5 v = begins-is (bytes "/TDSV") v (and_left _ _ is) in
      let b : drop 5 v ≡ take 4 (drop 5 v) ++ drop 9 v = sym (take-append-drop 4 (drop 5 v)) ∙ rw (drop-drop 4 5 v) in
      a ∙ ap (λ (l : List ℕ). bytes "/TDSV" ++ l) b

  pub period-digit : has_period v ≡ true → is_digit (period_in v) ≡ true
  unfolding good_period
  period-digit h = rw h at good-period

  -- the byte of a period is there, since the byte 0 is no digit
  within : 48 ≤ get_or (drop 9 v) 5 0 → 5 < length (drop 9 v)
  within low = go (ltb 5 (length (drop 9 v))) refl
    where
      go : (t : Bool) → ltb 5 (length (drop 9 v)) ≡ t → 5 < length (drop 9 v)
      go true e = ltb-true _ _ e
      go false e = let z = get_or-eq_default (drop 9 v) 0 (ltb-false _ _ e) in let w : ⊥ = omega arith in absurd w

  some-period : has_period v ≡ true → drop 9 v ≡ (bytes "/GUPP" ++ period_in v ∷ []) ++ drop 15 v
  unfolding has_period period_in bytes is_digit is_between
  some-period h =
      let low : 48 ≤ get_or (drop 9 v) 5 0 = leb-true _ _ (and_left _ _ (period-digit h)) in
      let a : drop 9 v ≡ bytes "/GUPP" ++ drop 5 (drop 9 v) = begins-is (bytes "/GUPP") (drop 9 v) h in
      let b : drop 5 (drop 9 v) ≡ get_or (drop 9 v) 5 0 ∷ drop 15 v = drop-cons (drop 9 v) 5 0 (within low) ∙ rw (drop-drop 6 9 v) in
      a ∙ ap (λ (l : List ℕ). bytes "/GUPP" ++ l) b

  pub period-is : drop 9 v ≡ period_part v ++ behind_period v
  unfolding behind_period
  period-is = go (has_period v) refl
    where
      go : (b : Bool) → has_period v ≡ b → drop 9 v ≡ cond b (bytes "/GUPP" ++ period_in v ∷ []) [] ++ cond b (drop 15 v) (drop 9 v)
      go true h = some-period h
      go false h = refl

  pub narrative-is : v ≡ bytes "/TDSV" ++ (service_in v ++ (period_part v ++ reason_part (behind_period v)))
  narrative-is =
      front ∙ ap (λ (l : List ℕ). bytes "/TDSV" ++ (service_in v ++ l)) (period-is ∙ ap (λ (l : List ℕ). period_part v ++ l) (reason-is (behind_period v) good-reason))
