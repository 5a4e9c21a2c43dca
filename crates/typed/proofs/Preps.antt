-- PREP and its value tell each other: absent is date 0 and time 0, and is written as nothing.
-- Assumes nothing.
use Prim.Native.Nat.{ℕ}
use mathlib.Core.Path.{◌≡◌, refl, sym, ap, ◌∙◌}
use mathlib.Core.Bool.{Bool, true, false, ◌&&◌, ◌||◌, or-true, or-false}
use mathlib.Core.List.{List, []}
use mathlib.Core.Logic.{◌⊎◌, inl, inr}
use lib.Dec.{eqb}
use borrow.Author.Tests.{eqb-true}
use Rattle.text.proofs.Laws.{and_left, and_right}
use Rattle.digits.specs.Numerals.{wide_number}
use Rattle.calendar.specs.Dates.{year, is_date, is_time, is_moment, moment_from, moment_read, moment_number, moment_text}
use Rattle.calendar.specs.declared.Moment.{Moment}
use Rattle.calendar.proofs.Laws.{moment-round}
use Rattle.typed.specs.Typed.{moment_or0}
use Rattle.typed.proofs.Laws.{moment-held}
use Rattle.typed.specs.Prep.{prep_form}

pub no-moment : (m : Moment) → is_moment m ≡ false → moment_text m ≡ []
unfolding moment_text
no-moment m e = rw e

abbrev moment : ℕ → ℕ → Moment
moment date time = record { date = record { 0 = date }; time = record { 0 = time } }

nothing_read : moment_or0 (moment_read []) ≡ moment 0 0
unfolding moment_read moment_from wide_number
nothing_read = refl

pub prep-back : (m : Moment) → prep_form m ≡ true → moment_or0 (moment_read (moment_text m)) ≡ m
unfolding prep_form
prep-back m e = go (is_moment m) refl e
  where
    go : (b : Bool) → is_moment m ≡ b → ((eqb m.date.0 0 && eqb m.time.0 0) || b) ≡ true → moment_or0 (moment_read (moment_text m)) ≡ m
    go true t h = ap moment_or0 (moment-round m t)
    go false t h =
        let z : (eqb m.date.0 0 && eqb m.time.0 0) ≡ true = rw or-false at h in
        let d : m.date.0 ≡ 0 = eqb-true _ _ (and_left _ _ z) in
        let n : m.time.0 ≡ 0 = eqb-true _ _ (and_right (eqb m.date.0 0) _ z) in
        ap (λ (s : List ℕ). moment_or0 (moment_read s)) (no-moment m t) ∙ nothing_read
        ∙ ap (λ (k : ℕ). moment k 0) (sym d) ∙ ap (λ (k : ℕ). moment m.date.0 k) (sym n)

-- what is in form is written as nothing, or as a moment
pub prep-number : (m : Moment) → prep_form m ≡ true → (moment_text m ≡ []) ⊎ (moment_number (moment_read (moment_text m)) ≡ 0)
prep-number m e = go (is_moment m) refl
  where
    go : (b : Bool) → is_moment m ≡ b → (moment_text m ≡ []) ⊎ (moment_number (moment_read (moment_text m)) ≡ 0)
    go true t = inr (ap moment_number (moment-round m t))
    go false t = inl (no-moment m t)

pub prep-held : (v : List ℕ) → (v ≡ []) ⊎ (moment_number (moment_read v) ≡ 0)
    → (prep_form (moment_or0 (moment_read v)) ≡ true) × (moment_text (moment_or0 (moment_read v)) ≡ v)
unfolding prep_form moment_read moment_from moment_text wide_number is_moment is_date is_time year
prep-held v (inl e) = rw e (refl, refl)
prep-held v (inr e) = let h = moment-held v e in (rw h.0 (or-true (eqb (moment_or0 (moment_read v)).date.0 0 && eqb (moment_or0 (moment_read v)).time.0 0)), h.1)
