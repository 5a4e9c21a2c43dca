-- What callers cite: the number that a record of any type shows by itself, by what a program does: the record is not in form, a rule is
-- broken, or the narrative is over 35 characters, four of them in front of its value; the first of these decides.
-- Assumes nothing.
use Prim.Native.Nat.{ℕ, ◌+◌, ◌≤◌, ◌<◌}
use mathlib.Core.Path.{◌≡◌, refl, sym, ap, ◌∙◌}
use mathlib.Core.Bool.{true, false, not}
use native.Mathlib.Omega.{arith}
use lib.Dec.{ltb}
use lib.ListN.{length}
use borrow.Author.Tests.{lt-ltb, le-ltb}
use Rattle.lines.specs.Verdicts.{refused, pass, then, when}
use Rattle.lines.specs.declared.Verdict.{Verdict}
use Rattle.lines.proofs.Laws.{stop, go}
use Rattle.lines.proofs.Rules.{broken, kept as passed, stops, goes_on}
use Rattle.format.specs.Format.{Format}
use Rattle.format.specs.Writing.{judge_of}

-- rules that are kept, and a narrative that is short enough
pub rules-short : (rules : Verdict) (n : ℕ) → rules.number ≡ 0 → n ≤ 31 → (then rules (when (ltb 35 (4 + n)) 20)).number ≡ 0
unfolding then when pass refused
rules-short rules n kept h = rw (kept, le-ltb 35 (4 + n) (omega arith))

-- rules and then the narrative's width, as they are found one after the other
module _ (rules : Verdict) (n : ℕ) (v : Verdict) (is : v ≡ rules) where
  abbrev narrow-by : Verdict
  narrow-by = when (ltb 35 (4 + n)) 20

  pub stays : (v.number ≡ 0 → ⊥) → v ≡ then rules narrow-by
  stays h = stop v rules narrow-by is h

  module _ (kept : v.number ≡ 0) (k : ℕ) (long : k ≡ n) where
    pub too_wide : 31 < k → record { number = 20; line = 0 } ≡ then rules narrow-by
    unfolding refused
    too_wide h = broken (ltb 35 (4 + n)) 20 (lt-ltb 35 (4 + n) (omega arith)) ∙ go v rules narrow-by is kept

    pub narrow_enough : k ≤ 31 → record { number = 0; line = 0 } ≡ then rules narrow-by
    unfolding pass refused
    narrow_enough h = passed (ltb 35 (4 + n)) 20 (le-ltb 35 (4 + n) (omega arith)) ∙ go v rules narrow-by is kept

module _ (F : Format) (r : F.Held) where
  number : Verdict → ℕ
  number v = v.number

  pub out-of-form : F.in_form r ≡ false → 18 ≡ judge_of F r
  unfolding judge_of refused number
  out-of-form e = ap number (stops (not (F.in_form r)) 18 (F.write_rules r) (ap not e) refl)

  -- the rules in two: those of the record, and the narrative's width
  module _ (form : F.in_form r ≡ true) (rules : Verdict) (told : ℕ) (are : F.write_rules r ≡ then rules (when (ltb 35 (4 + length (F.value_of r told))) 20))
      (v : Verdict) (is : v ≡ rules) where
    narrow : Verdict
    narrow = when (ltb 35 (4 + length (F.value_of r told))) 20

    judged : (then v narrow).number ≡ judge_of F r
    unfolding judge_of number narrow
    judged = ap number (ap (λ (p : Verdict). then p narrow) is ∙ sym are ∙ goes_on (not (F.in_form r)) 18 (F.write_rules r) (ap not form))

    pub rule-broken : (v.number ≡ 0 → ⊥) → v.number ≡ judge_of F r
    unfolding number
    rule-broken h = ap number (stop v v narrow refl h) ∙ judged

    module _ (kept : v.number ≡ 0) (n : ℕ) (long : n ≡ length (F.value_of r told)) where
      last : narrow.number ≡ judge_of F r
      unfolding number
      last = ap number (go v v narrow refl kept) ∙ judged

      pub too_long : 31 < n → 20 ≡ judge_of F r
      unfolding number narrow refused
      too_long h = ap number (broken (ltb 35 (4 + length (F.value_of r told))) 20 (lt-ltb 35 (4 + length (F.value_of r told)) (omega arith))) ∙ last

      pub nothing-wrong : n ≤ 31 → 0 ≡ judge_of F r
      unfolding number narrow pass refused
      nothing-wrong h = ap number (passed (ltb 35 (4 + length (F.value_of r told))) 20 (le-ltb 35 (4 + length (F.value_of r told)) (omega arith))) ∙ last
