-- The narrative and its parts tell each other: what is written of a service, a period and a reason is a narrative that means
-- them, and what a narrative means is written as that narrative.
-- Assumes nothing.
use Prim.Native.Nat.{ℕ, ◌+◌, ◌-◌, ◌%◌, ◌≤◌}
use mathlib.Core.Path.{◌≡◌, refl, sym, ap, ◌∙◌}
use mathlib.Core.Bool.{Bool, true, false, cond}
use mathlib.Core.List.{List, [], ◌∷◌, ◌++◌}
use native.Mathlib.Omega.{arith}
use lib.Dec.{leb}
use lib.ListN.{length, drop, get_or, length-append}
use lib.Seq.{take_at, drop_at, drop-drop}
use borrow.Author.Tests.{leb-true, le-leb}
use Rattle.std.proofs.Common.{Option, Some, None}
use Rattle.text.specs.Bytes.{bytes, begins, same}
use Rattle.text.specs.Classes.{is_digit, is_between}
use Rattle.text.specs.Texts.{text_of}
use Rattle.text.specs.Texts.{Text}
use Rattle.text.proofs.Laws.{and_left, and_right, and_both, begins-append}
use Rattle.digits.specs.Numerals.{digits}
use Rattle.reason.specs.Reason.{reason_in, good_reason, reason_text, reason_form}
use Rattle.reason.proofs.Laws.{reason_part, no_other, reason-part, reason-told, reason-short}
use Rattle.forms.specs.Forms.{word_at, is_word}
use Rattle.forms.specs.Narrative.{services, service_in, has_period, period_in, behind_period, good_period, is_narrative}
use Rattle.forms.proofs.Narratives.{period_part, worded, period-digit, good-reason, narrative-is}
use Rattle.trade.specs.Narrative.{service_of, period_of}
use Rattle.trade.specs.declared.Service.{Service}
use Rattle.values.specs.Values.{service_word, period_text, narrative}
use Rattle.values.specs.Writable.{period_form}
use Rattle.format.proofs.BySlot.{◌⨾◌, word_back}

pub service-four : (service : Service) → length (service_word service) ≡ 4
unfolding service_word bytes
service-four Service.Sbod = refl
service-four Service.Tftd = refl
service-four Service.Stip = refl

service-word : (service : Service) → is_word services (service_word service) ≡ true
unfolding service_word bytes is_word word_at same
service-word Service.Sbod = refl
service-word Service.Tftd = refl
service-word Service.Stip = refl

service-is : (service : Service) → get_or (Service.Sbod ∷ Service.Tftd ∷ Service.Stip ∷ []) (word_at services (service_word service)) Service.Sbod ≡ service
unfolding service_word bytes word_at same
service-is Service.Sbod = refl
service-is Service.Tftd = refl
service-is Service.Stip = refl

-- ---- what is written is a narrative, and means what was written

pub record Told (service : Service) (period : Option ℕ) (reason : Text) (v : List ℕ) : Type 0 where
  pub is : is_narrative v ≡ true
  pub service-of : service_of v ≡ service
  pub period-of : period_of v ≡ period
  pub reason-of : text_of (reason_in (behind_period v)) ≡ reason

period-part : (period : Option ℕ) (rest v : List ℕ) → period_form period ≡ true → good_reason rest ≡ true → drop 9 v ≡ period_text period ++ rest
    → (period_of v ≡ period) × (good_period v ≡ true) × (behind_period v ≡ rest)
unfolding period_of good_period behind_period has_period period_in period_text period_form bytes begins digits is_digit is_between
period-part None rest v f g e = rw (e, no_other rest g (bytes "/GUPP") refl (λ s. refl)) (refl, refl, refl)
period-part (Some n) rest v f g e =
    let small : n ≤ 9 = leb-true n 9 f in
    let digit : 48 + n % 10 - 48 ≡ n = omega arith in
    let low : leb 48 (48 + n % 10) ≡ true = le-leb 48 (48 + n % 10) (omega arith) in
    let high : leb (48 + n % 10) 57 ≡ true = le-leb (48 + n % 10) 57 (omega arith) in
    let last : drop 15 v ≡ drop 6 (drop 9 v) = sym (drop-drop 6 9 v) in
    rw (last, e, digit, low, high) (refl, refl, refl)

module _ (service : Service) (period : Option ℕ) (reason : Text) (goodp : period_form period ≡ true) (goodr : reason_form reason ≡ true) where
  behind-word : drop 9 (narrative service period reason) ≡ period_text period ++ reason_text reason
  unfolding narrative bytes
  behind-word = drop_at (service_word service) (period_text period ++ reason_text reason) 4 (service-four service)

  word_in : service_in (narrative service period reason) ≡ service_word service
  unfolding narrative service_in bytes
  word_in = take_at (service_word service) (period_text period ++ reason_text reason) 4 (service-four service)

  pub told-parts : Told service period reason (narrative service period reason)
  unfolding narrative is_narrative service_of
  told-parts =
      let p = period-part period (reason_text reason) (narrative service period reason) goodp (reason-part reason (reason_text reason) goodr refl).1 behind-word in
      let r = reason-part reason (behind_period (narrative service period reason)) goodr p.2 in
      record {
        is = and_both (begins-append (bytes "/TDSV") _) (and_both (ap (is_word services) word_in ∙ service-word service) (and_both p.1 r.1));
        service-of = rw word_in (service-is service);
        period-of = p.0;
        reason-of = r.0;
      }

-- ---- what a narrative means is written as the narrative

module _ (v : List ℕ) (is : is_narrative v ≡ true) where
  word-told : service_in v ≡ service_word (service_of v)
  unfolding service_of service_word bytes
  word-told = sym (word_back services (Service.Sbod ∷ Service.Tftd ∷ Service.Stip ∷ []) Service.Sbod service_word (refl ⨾ refl ⨾ refl ⨾ tt) (service_in v) (worded v is))

  period-told : (period_part v ≡ period_text (period_of v)) × (period_form (period_of v) ≡ true)
  unfolding period_of period_text period_form bytes digits is_digit is_between
  period-told = go (has_period v) refl
    where
      go : (b : Bool) → has_period v ≡ b
          → (cond b (bytes "/GUPP" ++ period_in v ∷ []) [] ≡ period_text (cond b (Some (period_in v - 48)) None))
          × (period_form (cond b (Some (period_in v - 48)) None) ≡ true)
      go true h =
          let d = period-digit v is h in
          let low : 48 ≤ period_in v = leb-true _ _ (and_left _ _ d) in
          let high : period_in v ≤ 57 = leb-true _ _ (and_right (leb 48 (period_in v)) _ d) in
          let digit : 48 + (period_in v - 48) % 10 ≡ period_in v = omega arith in
          (rw digit, le-leb (period_in v - 48) 9 (omega arith))
      go false h = (refl, refl)

  dkrs-told : (reason_part (behind_period v) ≡ reason_text (text_of (reason_in (behind_period v)))) × (reason_form (text_of (reason_in (behind_period v))) ≡ true)
  dkrs-told = reason-told (behind_period v) (good-reason v is)

  pub told_back : narrative (service_of v) (period_of v) (text_of (reason_in (behind_period v))) ≡ v
  unfolding narrative
  told_back = sym (narrative-is v is ∙ rw (word-told, period-told.0, dkrs-told.0))

  pub told-form : (period_form (period_of v) ≡ true) × (reason_form (text_of (reason_in (behind_period v))) ≡ true)
  told-form = (period-told.1, dkrs-told.1)

-- ---- how long it is

pub period-short : (period : Option ℕ) → length (period_text period) ≤ 6
unfolding period_text bytes digits
period-short None = omega arith
period-short (Some n) = omega arith

-- at most 24 bytes, which with `GSCC` in front are 28
pub narrative-short : (service : Service) (period : Option ℕ) (reason : Text) → reason_form reason ≡ true → length (narrative service period reason) ≤ 24
unfolding narrative bytes
narrative-short service period reason f =
    let a = service-four service in
    let b = period-short period in
    let c = reason-short reason f in
    let l = length-append (service_word service) (period_text period ++ reason_text reason) in
    let m = length-append (period_text period) (reason_text reason) in
    omega arith
