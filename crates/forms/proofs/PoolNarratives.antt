-- What callers cite: the parts of a pool netting member's narrative, one behind the other, and what each is; and that a narrative
-- which is made of such parts has them.
-- Assumes nothing.
use Prim.Native.Nat.{ℕ}
use mathlib.Core.Path.{◌≡◌, refl, ap, ◌∙◌}
use mathlib.Core.Bool.{Bool, true, false, cond}
use mathlib.Core.List.{List, [], ◌++◌}
use native.Mathlib.Omega.{arith}
use lib.ListN.{length, drop}
use lib.Seq.{drop-drop, drop_at}
use Rattle.text.specs.Bytes.{bytes, begins}
use Rattle.text.specs.Classes.{is_between, is_digit, in_class, all_in}
use Rattle.text.specs.declared.Class.TheVariants.{Digit}
use Rattle.text.proofs.Laws.{and_left, and_right, begins-is, begins-append, before-rest}
use Rattle.calendar.specs.Dates.{date_read, date_number}
use Rattle.reason.specs.Reason.{good_reason}
use Rattle.reason.proofs.Laws.{reason_part, reason-is, no_other, before-reason}
use Rattle.forms.specs.Pool.{has_cdr, behind_cdr, has_delivery, delivery_in, behind_delivery, is_pool_shape, pool_number}
use Rattle.forms.proofs.Laws.{date-good}

-- `/CDRY` and a delivery date as they stand, and nothing where there is none
abbrev pub cdr_part : List ℕ → List ℕ
cdr_part v = cond (has_cdr v) (bytes "/CDRY") []

abbrev pub delivery_part : List ℕ → List ℕ
delivery_part v = cond (has_delivery v) (bytes "/DDTE" ++ delivery_in v) []

module _ (v : List ℕ) (is : pool_number v ≡ 0) where
  shaped : (is_pool_shape v ≡ true) × (cond (has_delivery v) (date_number (date_read (delivery_in v))) 0 ≡ 0)
  unfolding pool_number
  shaped = go (is_pool_shape v) is
    where
      go : (b : Bool) {n : ℕ} → cond b n 10 ≡ 0 → (b ≡ true) × (n ≡ 0)
      go true e = (refl, e)
      go false e = let z : ⊥ = omega arith in absurd z

  pub pool-reason : good_reason (behind_delivery v) ≡ true
  unfolding is_pool_shape
  pool-reason = and_right (begins (bytes "/TDSVPOOL") v) _ shaped.0

  pub delivery-good : has_delivery v ≡ true → date_number (date_read (delivery_in v)) ≡ 0
  delivery-good h = rw h at shaped.1

  pub delivery-date : has_delivery v ≡ true → (all_in Digit (delivery_in v) ≡ true) × (length (delivery_in v) ≡ 8)
  delivery-date h = date-good (delivery_in v) (delivery-good h)

  pub pool-begins : begins (bytes "/TDSVPOOL") v ≡ true
  unfolding is_pool_shape
  pool-begins = and_left _ _ shaped.0

  front : v ≡ bytes "/TDSVPOOL" ++ drop 9 v
  unfolding bytes
  front = begins-is (bytes "/TDSVPOOL") v pool-begins

  cdr-is : drop 9 v ≡ cdr_part v ++ behind_cdr v
  unfolding behind_cdr has_cdr bytes
  cdr-is = go (has_cdr v) refl
    where
      go : (b : Bool) → has_cdr v ≡ b → drop 9 v ≡ cond b (bytes "/CDRY") [] ++ cond b (drop 14 v) (drop 9 v)
      go true h = begins-is (bytes "/CDRY") (drop 9 v) h ∙ ap (λ (l : List ℕ). bytes "/CDRY" ++ l) (drop-drop 5 9 v)
      go false h = refl

  delivery-is : behind_cdr v ≡ delivery_part v ++ behind_delivery v
  unfolding behind_delivery has_delivery delivery_in bytes
  delivery-is = go (has_delivery v) refl
    where
      go : (b : Bool) → has_delivery v ≡ b
          → behind_cdr v ≡ cond b (bytes "/DDTE" ++ delivery_in v) [] ++ cond b (drop (length (delivery_in v)) (drop 5 (behind_cdr v))) (behind_cdr v)
      go true h = begins-is (bytes "/DDTE") (behind_cdr v) h ∙ ap (λ (l : List ℕ). bytes "/DDTE" ++ l) (before-rest 47 (drop 5 (behind_cdr v)))
      go false h = refl

  pub pool-is : v ≡ bytes "/TDSVPOOL" ++ (cdr_part v ++ (delivery_part v ++ reason_part (behind_delivery v)))
  pool-is =
      let r : behind_cdr v ≡ delivery_part v ++ reason_part (behind_delivery v) =
      delivery-is ∙ ap (λ (l : List ℕ). delivery_part v ++ l) (reason-is (behind_delivery v) pool-reason)
      in front ∙ ap (λ (l : List ℕ). bytes "/TDSVPOOL" ++ l) (cdr-is ∙ ap (λ (l : List ℕ). cdr_part v ++ l) r)

-- ---- a narrative that is made of its parts

-- with CDRY or without, with a delivery date or without, and what is left behind them
abbrev pub made : Bool → Bool → List ℕ → List ℕ → List ℕ
made cdr dated date rest = bytes "/TDSVPOOL" ++ (cond cdr (bytes "/CDRY") [] ++ (cond dated (bytes "/DDTE" ++ date) [] ++ rest))

module _ (cdr dated : Bool) (date rest : List ℕ) (good : good_reason rest ≡ true) where
  pub made-cdr : has_cdr (made cdr dated date rest) ≡ cdr
  unfolding has_cdr bytes begins
  made-cdr = go cdr dated
    where
      go : (a b : Bool) → has_cdr (made a b date rest) ≡ a
      go true b = refl
      go false true = refl
      go false false = no_other rest good (bytes "/CDRY") refl (λ s. refl)

  behind : behind_cdr (made cdr dated date rest) ≡ cond dated (bytes "/DDTE" ++ date) [] ++ rest
  unfolding behind_cdr bytes
  behind = rw made-cdr (go cdr)
    where
      go : (a : Bool) → cond a (drop 14 (made a dated date rest)) (drop 9 (made a dated date rest)) ≡ cond dated (bytes "/DDTE" ++ date) [] ++ rest
      go true = refl
      go false = refl

  pub made-delivery : has_delivery (made cdr dated date rest) ≡ dated
  unfolding has_delivery bytes begins
  made-delivery = rw behind (go dated)
    where
      go : (b : Bool) → begins (bytes "/DDTE") (cond b (bytes "/DDTE" ++ date) [] ++ rest) ≡ b
      go true = refl
      go false = no_other rest good (bytes "/DDTE") refl (λ s. refl)

  module _ (days : dated ≡ true → date_number (date_read date) ≡ 0) where
    pub made-date : dated ≡ true → delivery_in (made cdr dated date rest) ≡ date
    unfolding delivery_in bytes in_class is_digit is_between
    made-date h = rw (behind, h) (before-reason rest good Digit refl date (date-good date (days h)).0)

    pub made-rest : behind_delivery (made cdr dated date rest) ≡ rest
    unfolding behind_delivery bytes
    made-rest = rw (made-delivery, behind) (go dated refl)
      where
        go : (b : Bool) → dated ≡ b
            → cond b (drop (length (delivery_in (made cdr dated date rest))) (drop 5 (cond b (bytes "/DDTE" ++ date) [] ++ rest))) (cond b (bytes "/DDTE" ++ date) [] ++ rest) ≡ rest
        go true h = rw (made-date h) (drop_at date rest (length date) refl)
        go false h = refl

    pub made-number : pool_number (made cdr dated date rest) ≡ 0
    unfolding pool_number is_pool_shape
    made-number =
        rw (begins-append (bytes "/TDSVPOOL") (cond cdr (bytes "/CDRY") [] ++ (cond dated (bytes "/DDTE" ++ date) [] ++ rest)), made-rest, good, made-delivery) (go dated refl)
      where
        go : (b : Bool) → dated ≡ b → cond b (date_number (date_read (delivery_in (made cdr dated date rest)))) 0 ≡ 0
        go true h = rw (made-date h) (days h)
        go false h = refl
