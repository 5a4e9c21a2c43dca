-- What callers cite: the narrative that is written of a record in form is a narrative that means its parts (`told-parts`), and what a
-- narrative means is in form and is written as that narrative (`told_back`, `told-form`); and how long one is.
-- Assumes nothing.
use Prim.Native.Nat.{ℕ, ◌+◌, ◌≤◌}
use mathlib.Core.Path.{◌≡◌, refl, sym, ap, ◌∙◌}
use mathlib.Core.Bool.{Bool, true, false, cond, true≢false}
use mathlib.Core.List.{List, [], ◌++◌}
use mathlib.Core.Logic.{◌⊎◌, inl, inr}
use native.Mathlib.Omega.{arith}
use lib.Dec.{ltb}
use lib.ListN.{length, length-append}
use Rattle.std.proofs.Common.{Option, Some, None}
use Rattle.text.specs.Bytes.{bytes}
use Rattle.text.specs.Texts.{Text}
use Rattle.calendar.specs.Dates.{date_read, date_number, date_text}
use Rattle.calendar.proofs.Laws.{date-round}
use Rattle.reason.specs.Reason.{good_reason, reason_text, reason_form}
use Rattle.reason.proofs.Laws as Reasons
use Rattle.forms.specs.Pool.{has_cdr, has_delivery, delivery_in, behind_delivery, pool_number}
use Rattle.forms.proofs.PoolNarratives.{delivery_part, pool-reason, delivery-good, pool-is, made, made-cdr, made-delivery, made-date, made-rest, made-number}
use Rattle.typed.specs.Typed.{date_or0}
use Rattle.typed.proofs.Laws.{date-held}
use Rattle.typed.proofs.Widths.{date-most}
use Rattle.pool_trade.specs.Narrative.{delivery_of, reason_of}
use Rattle.calendar.specs.declared.Date.{Date}
use Rattle.pool_values.specs.Values.{cdr_text, delivery_text, narrative}
use Rattle.pool_values.specs.Writable.{delivery_form}

-- ---- what is written means its parts

pub record Told (cdr : Bool) (delivery : Option Date) (reason : Text) (v : List ℕ) : Type 0 where
  pub number : pool_number v ≡ 0
  pub cdr-of : has_cdr v ≡ cdr
  pub delivery-of : delivery_of v ≡ delivery
  pub reason-of : reason_of v ≡ reason

-- whether there is a date, and its digits
abbrev dated : Option Date → Bool
dated None = false
dated (Some date) = true

abbrev date_of : Option Date → List ℕ
date_of None = []
date_of (Some date) = date_text date

days : (delivery : Option Date) → delivery_form delivery ≡ true → dated delivery ≡ true → date_number (date_read (date_of delivery)) ≡ 0
unfolding delivery_form
days None f h = absurd (true≢false (sym h))
days (Some date) f h = ap date_number (date-round date f)

narrative-made : (cdr : Bool) (delivery : Option Date) (reason : Text) → narrative cdr delivery reason ≡ made cdr (dated delivery) (date_of delivery) (reason_text reason)
unfolding narrative cdr_text delivery_text
narrative-made cdr None reason = refl
narrative-made cdr (Some date) reason = refl

module _ (cdr : Bool) (rest : List ℕ) (good : good_reason rest ≡ true) where
  made_told : (delivery : Option Date) → delivery_form delivery ≡ true → delivery_of (made cdr (dated delivery) (date_of delivery) rest) ≡ delivery
  unfolding delivery_of delivery_form
  made_told None f = rw (made-delivery cdr false [] rest good)
  made_told (Some date) f =
      rw (made-delivery cdr true (date_text date) rest good, made-date cdr true (date_text date) rest good (days (Some date) f) refl, date-round date f)

module _ (cdr : Bool) (delivery : Option Date) (reason : Text) (goodd : delivery_form delivery ≡ true) (goodr : reason_form reason ≡ true) where
  pub told-parts : Told cdr delivery reason (narrative cdr delivery reason)
  unfolding reason_of
  told-parts =
      let r = Reasons.reason-part reason (reason_text reason) goodr refl in
      rw (narrative-made cdr delivery reason)
      record {
        number = made-number cdr (dated delivery) (date_of delivery) (reason_text reason) r.1 (days delivery goodd);
        cdr-of = made-cdr cdr (dated delivery) (date_of delivery) (reason_text reason) r.1;
        delivery-of = made_told cdr (reason_text reason) r.1 delivery goodd;
        reason-of = rw (made-rest cdr (dated delivery) (date_of delivery) (reason_text reason) r.1 (days delivery goodd)) r.0;
      }

-- ---- what a narrative means is written as the narrative

module _ (v : List ℕ) (is : pool_number v ≡ 0) where
  delivery-told : (delivery_part v ≡ delivery_text (delivery_of v)) × (delivery_form (delivery_of v) ≡ true)
  unfolding delivery_of delivery_text delivery_form
  delivery-told = go (has_delivery v) refl
    where
      go : (b : Bool) → has_delivery v ≡ b
          → (cond b (bytes "/DDTE" ++ delivery_in v) [] ≡ delivery_text (cond b (Some (date_or0 (date_read (delivery_in v)))) None))
          × (delivery_form (cond b (Some (date_or0 (date_read (delivery_in v)))) None) ≡ true)
      go true h = let d = date-held (delivery_in v) (delivery-good v is h) in (ap (λ (l : List ℕ). bytes "/DDTE" ++ l) (sym d.1), d.0)
      go false h = (refl, refl)

  pub told_back : narrative (has_cdr v) (delivery_of v) (reason_of v) ≡ v
  unfolding narrative cdr_text reason_of
  told_back =
      let r = Reasons.reason-told (behind_delivery v) (pool-reason v is) in
      sym (pool-is v is ∙ rw (delivery-told.0, r.0))

  pub told-form : (delivery_form (delivery_of v) ≡ true) × (reason_form (reason_of v) ≡ true)
  unfolding reason_of
  told-form = (delivery-told.1, (Reasons.reason-told (behind_delivery v) (pool-reason v is)).1)

-- ---- how long it is

pub cdr-short : (cdr : Bool) → length (cdr_text cdr) ≤ 5
unfolding cdr_text bytes
cdr-short true = omega arith
cdr-short false = omega arith

pub delivery-short : (delivery : Option Date) → length (delivery_text delivery) ≤ 13
unfolding delivery_text bytes
delivery-short None = omega arith
delivery-short (Some date) = let d = date-most date in omega arith

module _ (cdr : Bool) (delivery : Option Date) (reason : Text) where
  pub narrative-length : length (narrative cdr delivery reason) ≡ 9 + (length (cdr_text cdr) + (length (delivery_text delivery) + length (reason_text reason)))
  unfolding narrative bytes
  narrative-length =
      let l = length-append (cdr_text cdr) (delivery_text delivery ++ reason_text reason) in
      let m = length-append (delivery_text delivery) (reason_text reason) in
      omega arith

  -- in form at most 36 bytes, which with `DTCY` in front are 40
  pub narrative-short : reason_form reason ≡ true → length (narrative cdr delivery reason) ≤ 36
  narrative-short f =
      let n = narrative-length in
      let a = cdr-short cdr in
      let b = delivery-short delivery in
      let c = Reasons.reason-short reason f in
      omega arith

  -- and at most 31 where it has not both CDRY and a reason
  pub narrative-shorter : reason_form reason ≡ true → (cdr ≡ false) ⊎ (ltb 0 reason.len ≡ false) → length (narrative cdr delivery reason) ≤ 31
  unfolding cdr_text
  narrative-shorter f (inl e) =
      let n = rw e at narrative-length in
      let b = delivery-short delivery in
      let c = Reasons.reason-short reason f in
      rw e (omega arith)
  narrative-shorter f (inr e) =
      let n = rw (Reasons.no-reason reason e) at narrative-length in
      let a = cdr-short cdr in
      let b = delivery-short delivery in
      omega arith
