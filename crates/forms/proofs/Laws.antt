-- What callers cite: a fixed text is short; and what a value that gets 0 is, by its form.
-- Assumes nothing.
use Prim.Native.Nat.{ℕ, suc, ◌≤◌}
use mathlib.Core.Path.{◌≡◌, refl, sym, ap, ◌∙◌}
use mathlib.Core.Bool.{Bool, true, false, cond}
use mathlib.Core.List.{List, [], ◌∷◌, ◌++◌}
use native.Mathlib.Nat.{le_of_suc-le-suc}
use native.Mathlib.Omega.{arith}
use lib.Dec.{ltb}
use lib.ListN.{length, drop, get_or, length-take}
use borrow.Author.Tests.{ltb-true, lt-ltb}
use Rattle.std.proofs.Common.{Some, None, Option}
use Rattle.text.specs.Bytes.{begins, same}
use Rattle.text.specs.Classes.{all_in}
use Rattle.text.specs.declared.Class.TheVariants.{Digit}
use Rattle.text.proofs.Laws.{same-eq, begins-is}
use Rattle.amount.specs.Amounts.{is_amount, meaning, amount_read, amount_number}
use Rattle.calendar.specs.Dates.{date_read, date_number, moment_read, moment_number}
use Rattle.calendar.specs.declared.Date.{Date}
use Rattle.calendar.specs.declared.Moment.{Moment}
use Rattle.calendar.proofs.Laws.{date-back, date-length, date-digits, moment-back, moment-length, moment-digits}
use Rattle.forms.specs.Forms.{Slot, word_at, is_word, unless, form_number, value_number}
use Rattle.forms.specs.Slots.{reaches, text_in, slot_at}
use Rattle.forms.proofs.Parts.{after-fixed}

either : (b : Bool) (x : List ℕ) → length x ≤ 16 → length (cond {A = List ℕ} b x []) ≤ 16
either true x h = h
either false x h = omega arith

-- the fixed text of a slot has at most sixteen bytes
pub fixed-short : (t : List ℕ) (slot : ℕ) → length (slot_at t slot).fixed ≤ 16
unfolding slot_at text_in
fixed-short t slot = either (reaches t slot) _ (rw length-take (omega arith))

-- ---- a value that gets 0

pub unless-good : (b : Bool) → unless b ≡ 0 → b ≡ true
unfolding unless
unless-good true e = refl
unless-good false e = let z : ⊥ = omega arith in absurd z

-- it begins with the fixed text, and behind that stands a part that its form takes
pub value-begins : (slot : Slot) (v : List ℕ) → value_number slot v ≡ 0 → begins slot.fixed v ≡ true
unfolding value_number
value-begins slot v h = go (begins slot.fixed v) h
  where
    go : (b : Bool) → cond b (form_number slot.form (drop (length slot.fixed) v)) 10 ≡ 0 → b ≡ true
    go true n = refl
    go false n = let z : ⊥ = omega arith in absurd z

pub value-behind : (slot : Slot) (v : List ℕ) → value_number slot v ≡ 0
    → (v ≡ slot.fixed ++ drop (length slot.fixed) v) × (form_number slot.form (drop (length slot.fixed) v) ≡ 0)
value-behind slot v h = let b = value-begins slot v h in (begins-is slot.fixed v b, after-fixed slot v b ∙ h)

-- a word stands at its place
pub word-at : (ws : List (List ℕ)) (v : List ℕ) → is_word ws v ≡ true → get_or ws (word_at ws v) [] ≡ v
unfolding is_word word_at
word-at [] v e = let z : ⊥ = omega (arith, ltb-true 0 0 e) in absurd z
word-at (w ∷ ws) v e = go (λ h. word-at ws v h) (same w v) refl e
  where
    go : (ltb (word_at ws v) (length ws) ≡ true → get_or ws (word_at ws v) [] ≡ v) → (b : Bool) → same w v ≡ b
        → ltb (cond b 0 (suc (word_at ws v))) (suc (length ws)) ≡ true → get_or (w ∷ ws) (cond b 0 (suc (word_at ws v))) [] ≡ v
    go ih true h l = same-eq w v h
    go ih false h l = ih (lt-ltb (word_at ws v) (length ws) (le_of_suc-le-suc (ltb-true (suc (word_at ws v)) (suc (length ws)) l)))

pub amount-good : (v : List ℕ) → amount_number (amount_read v) ≡ 0 → is_amount v ≡ true
unfolding amount_read
amount-good v e = go (is_amount v) e
  where
    go : (b : Bool) → amount_number (cond b (Some (meaning v)) None) ≡ 0 → b ≡ true
    go true h = refl
    go false h = let z : ⊥ = omega arith in absurd z

-- dates and moments are digits alone, eight and fourteen
pub date-good : (v : List ℕ) → date_number (date_read v) ≡ 0 → (all_in Digit v ≡ true) × (length v ≡ 8)
date-good v e = go (date_read v) refl e
  where
    go : (r : Option Date) → date_read v ≡ r → date_number r ≡ 0 → (all_in Digit v ≡ true) × (length v ≡ 8)
    go (Some d) t h =
        let b = date-back v d t in
        (sym (ap (all_in Digit) b.1) ∙ date-digits d, sym (ap length b.1) ∙ date-length d b.0)
    go None t h = let z : ⊥ = omega arith in absurd z

pub moment-good : (v : List ℕ) → moment_number (moment_read v) ≡ 0 → (all_in Digit v ≡ true) × (length v ≡ 14)
moment-good v e = go (moment_read v) refl e
  where
    go : (r : Option Moment) → moment_read v ≡ r → moment_number r ≡ 0 → (all_in Digit v ≡ true) × (length v ≡ 14)
    go (Some m) t h =
        let b = moment-back v m t in
        (sym (ap (all_in Digit) b.1) ∙ moment-digits m, sym (ap length b.1) ∙ moment-length m b.0)
    go None t h = let z : ⊥ = omega arith in absurd z
