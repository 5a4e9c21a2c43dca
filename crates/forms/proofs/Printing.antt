-- What callers cite: a value that gets 0 is printable, for every form whose words, or whose class, are, since the other forms take no
-- byte that is not from 20 to 7E hex.
-- Assumes nothing.
use Prim.Native.Nat.{ℕ, zero, suc}
use mathlib.Core.Path.{◌≡◌, refl, sym, ap, ◌∙◌}
use mathlib.Core.Bool.{Bool, true, false, cond}
use mathlib.Core.List.{List, [], ◌∷◌, ◌++◌}
use native.Mathlib.Omega.{arith}
use lib.ListN.{length, drop, get_or}
use borrow.Author.Tests.{eqb-true}
use Rattle.text.specs.Bytes.{bytes}
use Rattle.text.specs.Classes.{is_digit, is_between, printed_class}
use Rattle.text.proofs.Codes.{all-class, code-all}
use Rattle.text.proofs.Laws.{no_bytes, and_left, and_right, and_both}
use Rattle.text.proofs.Printed.{printed, printed-append, between, all-printed, digits-printed, codes-printed, all_printed}
use Rattle.amount.specs.Amounts.{whole, decimals, is_amount}
use Rattle.amount.proofs.Laws.{amount-split, amount-fit}
use Rattle.reason.proofs.Laws.{reason-printed}
use Rattle.forms.specs.Forms.{Form, Slot, nothing, codes, characters, words, amount, date, moment, narrative, pool_narrative, other, word_at, is_word, form_number, value_number}
use Rattle.forms.specs.Narrative.{services, service_in, has_period, period_in, behind_period, is_narrative}
use Rattle.forms.specs.Pool.{has_cdr, has_delivery, delivery_in, behind_delivery, pool_number}
use Rattle.forms.proofs.Laws.{unless-good, value-behind, word-at, amount-good, date-good, moment-good}
use Rattle.forms.proofs.Narratives.{period_part, worded, period-digit, good-reason, narrative-is}
use Rattle.forms.proofs.PoolNarratives.{cdr_part, delivery_part, delivery-date, pool-reason, pool-is}

-- a form takes printable values only
unfoldable pub printed_form : Form → Bool
printed_form nothing = true
printed_form (codes least most) = true
printed_form (characters class least most) = printed_class class
printed_form (words ws) = all_printed ws
printed_form amount = true
printed_form date = true
printed_form moment = true
printed_form narrative = true
printed_form pool_narrative = true
printed_form other = false

-- ---- each form

printed-at : (ws : List (List ℕ)) (i : ℕ) → all_printed ws ≡ true → printed (get_or ws i []) ≡ true
unfolding all_printed printed
printed-at [] i e = refl
printed-at (w ∷ ws) zero e = and_left _ _ e
printed-at (w ∷ ws) (suc i) e = printed-at ws i (and_right (printed w) _ e)

pub word-printed : (ws : List (List ℕ)) (v : List ℕ) → all_printed ws ≡ true → is_word ws v ≡ true → printed v ≡ true
word-printed ws v e h = sym (ap printed (word-at ws v h)) ∙ printed-at ws (word_at ws v) e

pub amount-printed : (v : List ℕ) → is_amount v ≡ true → printed v ≡ true
unfolding printed is_between
amount-printed v h =
    let f = amount-fit v h in
    ap printed (amount-split v h) ∙ printed-append (whole v) (44 ∷ decimals v) (digits-printed _ f.wholes) (digits-printed _ f.rests)

module _ (v : List ℕ) (is : is_narrative v ≡ true) where
  service-printed : printed (service_in v) ≡ true
  unfolding all_printed printed is_between bytes
  service-printed = word-printed services (service_in v) refl (worded v is)

  period-printed : printed (period_part v) ≡ true
  unfolding printed is_between is_digit bytes
  period-printed = go (has_period v) refl
    where
      go : (b : Bool) → has_period v ≡ b → printed (cond b (bytes "/GUPP" ++ period_in v ∷ []) []) ≡ true
      go true h = and_both (between 48 57 (period_in v) (omega arith) (omega arith) (period-digit v is h)) refl
      go false h = refl

  pub narrative-printed : printed v ≡ true
  unfolding printed is_between bytes
  narrative-printed =
      ap printed (narrative-is v is)
      ∙ printed-append (service_in v) _ service-printed (printed-append (period_part v) _ period-printed (reason-printed (behind_period v) (good-reason v is)))

module _ (v : List ℕ) (is : pool_number v ≡ 0) where
  cdr-printed : printed (cdr_part v) ≡ true
  unfolding printed is_between bytes
  cdr-printed = go (has_cdr v)
    where
      go : (b : Bool) → printed (cond b (bytes "/CDRY") []) ≡ true
      go true = refl
      go false = refl

  delivery-printed : printed (delivery_part v) ≡ true
  unfolding printed is_between bytes
  delivery-printed = go (has_delivery v) refl
    where
      go : (b : Bool) → has_delivery v ≡ b → printed (cond b (bytes "/DDTE" ++ delivery_in v) []) ≡ true
      go true h = digits-printed (delivery_in v) (delivery-date v is h).0
      go false h = refl

  pub pool-printed : printed v ≡ true
  unfolding printed is_between bytes
  pool-printed =
      ap printed (pool-is v is)
      ∙ printed-append (cdr_part v) _ cdr-printed (printed-append (delivery_part v) _ delivery-printed (reason-printed (behind_delivery v) (pool-reason v is)))

-- ---- every form

pub form-printed : (f : Form) (v : List ℕ) → printed_form f ≡ true → form_number f v ≡ 0 → printed v ≡ true
unfolding printed_form form_number printed
form-printed nothing v p h = ap printed (no_bytes v (eqb-true (length v) 0 (unless-good _ h)))
form-printed (codes least most) v p h = codes-printed v (code-all least most v (unless-good _ h))
form-printed (characters class least most) v p h = all-printed class v p (all-class class least most v (unless-good _ h))
form-printed (words ws) v p h = word-printed ws v p (unless-good _ h)
form-printed amount v p h = amount-printed v (amount-good v h)
form-printed date v p h = digits-printed v (date-good v h).0
form-printed moment v p h = digits-printed v (moment-good v h).0
form-printed narrative v p h = narrative-printed v (unless-good _ h)
form-printed pool_narrative v p h = pool-printed v h
form-printed other v p h = let z : ◌≡◌ {A = ℕ} 0 1 = cc in absurd (omega arith)

pub value-printed : (slot : Slot) (v : List ℕ) → printed_form slot.form ≡ true → printed slot.fixed ≡ true → value_number slot v ≡ 0 → printed v ≡ true
value-printed slot v p f h =
    let b = value-behind slot v h in
    ap printed b.0 ∙ printed-append slot.fixed (drop (length slot.fixed) v) f (form-printed slot.form _ p b.1)
