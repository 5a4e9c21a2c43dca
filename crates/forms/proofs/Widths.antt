-- What callers cite: the most bytes of a value that gets 0, by its form.
-- Assumes nothing.
use Prim.Native.Nat.{ℕ, zero, suc, ◌+◌, ◌≤◌, max}
use mathlib.Core.Path.{◌≡◌, refl, ap, ◌∙◌}
use mathlib.Core.Bool.{Bool, true, false, cond}
use mathlib.Core.List.{List, [], ◌∷◌, ◌++◌}
use native.Mathlib.Nat.{le_trans, le-max_left, le-max_right}
use native.Mathlib.Omega.{arith}
use lib.ListN.{length, drop, get_or, length-append, length-take}
use borrow.Author.Tests.{leb-true, eqb-true}
use Rattle.text.specs.Bytes.{bytes}
use Rattle.text.proofs.Codes.{all_most, code-most}
use Rattle.text.proofs.Laws.{and_left}
use Rattle.amount.specs.Amounts.{is_amount}
use Rattle.reason.proofs.Laws.{reason_part, reason-width}
use Rattle.forms.specs.Forms.{Form, Slot, nothing, codes, characters, words, amount, date, moment, narrative, pool_narrative, other, word_at, is_word, form_number, value_number}
use Rattle.forms.specs.Narrative.{service_in, has_period, period_in, behind_period, is_narrative}
use Rattle.forms.specs.Pool.{has_cdr, has_delivery, delivery_in, behind_delivery, pool_number}
use Rattle.forms.proofs.Laws.{unless-good, value-behind, word-at, amount-good, date-good, moment-good}
use Rattle.forms.proofs.Narratives.{period_part, good-reason, narrative-is}
use Rattle.forms.proofs.PoolNarratives.{cdr_part, delivery_part, delivery-date, pool-reason, pool-is}

unfoldable pub longest : List (List ℕ) → ℕ
longest [] = 0
longest (w ∷ ws) = max (length w) (longest ws)

unfoldable pub form_width : Form → ℕ
form_width nothing = 0
form_width (codes least most) = most
form_width (characters class least most) = most
form_width (words ws) = longest ws
form_width amount = 15
form_width date = 8
form_width moment = 14
form_width narrative = 24
form_width pool_narrative = 36
form_width other = 0

-- all forms but that which takes any text
unfoldable pub bounded : Form → Bool
bounded nothing = true
bounded (codes least most) = true
bounded (characters class least most) = true
bounded (words ws) = true
bounded amount = true
bounded date = true
bounded moment = true
bounded narrative = true
bounded pool_narrative = true
bounded other = false

-- ---- each form

long-at : (ws : List (List ℕ)) (i : ℕ) → length (get_or ws i []) ≤ longest ws
unfolding longest
long-at [] i = omega arith
long-at (w ∷ ws) zero = le-max_left (length w) (longest ws)
long-at (w ∷ ws) (suc i) = le_trans (long-at ws i) (le-max_right (length w) (longest ws))

pub word_width : (ws : List (List ℕ)) (v : List ℕ) → is_word ws v ≡ true → length v ≤ longest ws
word_width ws v h = let e = ap length (word-at ws v h) in let l = long-at ws (word_at ws v) in omega arith

amount-width : (v : List ℕ) → is_amount v ≡ true → length v ≤ 15
unfolding is_amount
amount-width v h = leb-true (length v) 15 (and_left _ _ h)

module _ (v : List ℕ) (is : is_narrative v ≡ true) where
  service-width : length (service_in v) ≤ 4
  unfolding service_in
  service-width = rw length-take (omega arith)

  period-width : length (period_part v) ≤ 6
  unfolding bytes
  period-width = go (has_period v)
    where
      go : (b : Bool) → length (cond b (bytes "/GUPP" ++ period_in v ∷ []) []) ≤ 6
      go true = omega arith
      go false = omega arith

  pub narrative-width : length v ≤ 24
  unfolding bytes
  narrative-width =
      let a = service-width in
      let b = period-width in
      let c = reason-width (behind_period v) (good-reason v is) in
      let l = length-append (service_in v) (period_part v ++ reason_part (behind_period v)) in
      let m = length-append (period_part v) (reason_part (behind_period v)) in
      let e = ap length (narrative-is v is) in
      omega arith

module _ (v : List ℕ) (is : pool_number v ≡ 0) where
  cdr-width : length (cdr_part v) ≤ 5
  unfolding bytes
  cdr-width = go (has_cdr v)
    where
      go : (b : Bool) → length (cond b (bytes "/CDRY") []) ≤ 5
      go true = omega arith
      go false = omega arith

  delivery-width : length (delivery_part v) ≤ 13
  unfolding bytes
  delivery-width = go (has_delivery v) refl
    where
      go : (b : Bool) → has_delivery v ≡ b → length (cond b (bytes "/DDTE" ++ delivery_in v) []) ≤ 13
      go true h = let l = (delivery-date v is h).1 in omega arith
      go false h = omega arith

  pub pool-width : length v ≤ 36
  unfolding bytes
  pool-width =
      let a = cdr-width in
      let b = delivery-width in
      let c = reason-width (behind_delivery v) (pool-reason v is) in
      let l = length-append (cdr_part v) (delivery_part v ++ reason_part (behind_delivery v)) in
      let m = length-append (delivery_part v) (reason_part (behind_delivery v)) in
      let e = ap length (pool-is v is) in
      omega arith

-- ---- every form

pub form-width : (f : Form) (v : List ℕ) → bounded f ≡ true → form_number f v ≡ 0 → length v ≤ form_width f
unfolding bounded form_number form_width
form-width nothing v b h = let e = eqb-true (length v) 0 (unless-good _ h) in omega arith
form-width (codes least most) v b h = code-most least most v (unless-good _ h)
form-width (characters class least most) v b h = all_most class least most v (unless-good _ h)
form-width (words ws) v b h = word_width ws v (unless-good _ h)
form-width amount v b h = amount-width v (amount-good v h)
form-width date v b h = let e = (date-good v h).1 in omega arith
form-width moment v b h = let e = (moment-good v h).1 in omega arith
form-width narrative v b h = narrative-width v (unless-good _ h)
form-width pool_narrative v b h = pool-width v h
form-width other v b h = let z : ◌≡◌ {A = ℕ} 0 1 = cc in absurd (omega arith)

-- with the fixed text in front
pub value-width : (slot : Slot) (v : List ℕ) → bounded slot.form ≡ true → value_number slot v ≡ 0 → length v ≤ length slot.fixed + form_width slot.form
value-width slot v b h =
    let n = value-behind slot v h in
    let w = form-width slot.form _ b n.1 in
    let l = ap length n.0 ∙ length-append slot.fixed (drop (length slot.fixed) v) in
    omega arith
