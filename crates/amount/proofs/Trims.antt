-- The comma of an amount's text and the noughts that go: what each definition on the text does to a text that is put
-- together, which is all that the laws of amounts and the loops of the code ask.
-- Assumes nothing.
use Prim.Native.Nat.{ℕ, zero, suc, ◌+◌, ◌-◌, ◌≤◌, ◌<◌}
use mathlib.Core.Path.{◌≡◌, refl, sym, ap, ◌∙◌}
use mathlib.Core.Bool.{Bool, true, false, cond, and-true, true≢false}
use mathlib.Core.List.{List, [], ◌∷◌, ◌++◌, append_assoc}
use mathlib.Core.Logic.{◌⊎◌, inl, inr, ⊎_elim}
use native.Mathlib.Nat.{not-suc-le-zero, zero-mul, zero-add}
use native.Mathlib.Numerals.{add-one}
use native.Mathlib.Omega.{arith}
use lib.Dec.{eqb}
use lib.ListN.{length, take, drop, replicate, length-append}
use lib.Seq.{take_at, drop_at, append_snoc}
use borrow.Author.Tests.{ne_eqb, eqb-true, eqb-false}
use Rattle.text.specs.Bytes.{before}
use Rattle.text.specs.Classes.{all_in, in_class, is_digit, is_between}
use Rattle.text.specs.declared.Class.TheVariants.{Digit}
use Rattle.text.proofs.Laws.{and_right, all_append, before_of, before_split}
use Rattle.digits.specs.Numerals.{numeral, numeral_from, digit_run}
use Rattle.digits.proofs.Laws.{numeral-append}
use Rattle.amount.specs.Amounts.{whole, decimals, trimmed, kept_before, shortened, noughts}

-- ---- the comma

-- digits before a comma hold no comma
pub whole_of : (w f : List ℕ) → all_in Digit w ≡ true → whole (w ++ 44 ∷ f) ≡ w
unfolding whole in_class is_digit is_between
whole_of w f e = before_of Digit 44 refl w f e

pub decimals-of : (w f : List ℕ) → all_in Digit w ≡ true → decimals (w ++ 44 ∷ f) ≡ f
unfolding decimals
decimals-of w f e = rw (whole_of w f e, ← append_snoc w 44 f) (drop_at (w ++ 44 ∷ []) f (length w + 1) (length-append w (44 ∷ [])))

-- a text with a comma is the whole part, the comma and the decimals
pub split : (s : List ℕ) → length (whole s) < length s → s ≡ whole s ++ 44 ∷ decimals s
unfolding whole decimals
split s h = rw add-one (before_split 44 s h)

-- the digits in front stand before the comma, with what stands before it behind them
pub whole_run : (s : List ℕ) → whole s ≡ digit_run s ++ whole (drop (length (digit_run s)) s)
unfolding whole before digit_run in_class is_digit is_between
whole_run [] = refl
whole_run (b ∷ s) = go (whole_run s) (in_class Digit b) refl
  where
    go : whole s ≡ digit_run s ++ whole (drop (length (digit_run s)) s) → (t : Bool) → in_class Digit b ≡ t
        → whole (b ∷ s) ≡ cond t (b ∷ digit_run s) [] ++ whole (drop (length (cond t (b ∷ digit_run s) [])) (b ∷ s))
    go ih true e =
        let other : b ≡ 44 → ⊥ = λ h. true≢false (sym e ∙ rw h) in
        rw (ne_eqb b 44 other) (ap (λ (l : List ℕ). b ∷ l) ih)
    go ih false e = refl

-- ---- the noughts in front

-- noughts put before digits go again
pub trimmed-noughts : (k : ℕ) (w : List ℕ) → 1 ≤ length w → trimmed (replicate {A = ℕ} k 48 ++ w) ≡ trimmed w
unfolding trimmed
trimmed-noughts zero w h = refl
trimmed-noughts (suc k) w h = one (replicate {A = ℕ} k 48 ++ w) (rw length-append (omega arith)) ∙ trimmed-noughts k w h
  where
    one : (x : List ℕ) → 1 ≤ length x → trimmed (48 ∷ x) ≡ trimmed x
    one [] h = absurd (not-suc-le-zero h)
    one (c ∷ x) h = refl

-- what is trimmed is the noughts and the rest
pub record Trim (x : List ℕ) : Type 0 where
  pub count : ℕ
  pub is : x ≡ replicate {A = ℕ} count 48 ++ trimmed x

pub trim-is : (x : List ℕ) → Trim x
unfolding trimmed
trim-is [] = record { count = 0; is = refl }
trim-is (b ∷ []) = record { count = 0; is = refl }
trim-is (b ∷ c ∷ s) = go (trim-is (c ∷ s)) (eqb b 48) refl
  where
    go : Trim (c ∷ s) → (t : Bool) → eqb b 48 ≡ t → Trim (b ∷ c ∷ s)
    go ih true e = record { count = suc ih.count; is = rw (e, eqb-true b 48 e) (ap (λ (l : List ℕ). 48 ∷ l) ih.is) }
    go ih false e = record { count = 0; is = rw e }

-- ---- the noughts at the end

joined-some : (a : ℕ) (x : List ℕ) (b : ℕ) → kept_before a (x ++ b ∷ []) ≡ a ∷ (x ++ b ∷ [])
unfolding kept_before
joined-some a [] b = refl
joined-some a (c ∷ x) b = refl

pub shortened-snoc : (x : List ℕ) (b : ℕ) → shortened (x ++ b ∷ []) ≡ cond (eqb b 48) (shortened x) (x ++ b ∷ [])
unfolding shortened kept_before
shortened-snoc [] b = refl
shortened-snoc (a ∷ x) b = rw (shortened-snoc x b) (go (eqb b 48))
  where
    go : (t : Bool) → kept_before a (cond t (shortened x) (x ++ b ∷ [])) ≡ cond t (kept_before a (shortened x)) (a ∷ (x ++ b ∷ []))
    go true = refl
    go false = joined-some a x b

-- what is left of decimals: nothing, or digits of which the last is no nought
pub record Ends (x : List ℕ) : Type 0 where
  pub front : List ℕ
  pub last : ℕ
  pub is : x ≡ front ++ last ∷ []
  pub some : last ≡ 48 → ⊥

joined-ends : (b : ℕ) (x : List ℕ) → (x ≡ []) ⊎ Ends x → (kept_before b x ≡ []) ⊎ Ends (kept_before b x)
unfolding kept_before
joined-ends b x (inl e) = rw e (go (eqb b 48) refl)
  where
    go : (t : Bool) → eqb b 48 ≡ t → (cond t [] (b ∷ []) ≡ []) ⊎ Ends (cond t [] (b ∷ []))
    go true t = inl refl
    go false t = inr (record { front = []; last = b; is = refl; some = eqb-false b 48 t })
joined-ends b x (inr w) =
    inr (record { front = b ∷ w.front; last = w.last; is = ap (kept_before b) w.is ∙ joined-some b w.front w.last; some = w.some })

pub shortened-ends : (f : List ℕ) → (shortened f ≡ []) ⊎ Ends (shortened f)
unfolding shortened
shortened-ends [] = inl refl
shortened-ends (b ∷ s) = joined-ends b (shortened s) (shortened-ends s)

-- digits of which the last is no nought stay
pub ends_stay : (x : List ℕ) → Ends x → shortened x ≡ x
ends_stay x w = rw w.is (shortened-snoc w.front w.last ∙ rw (ne_eqb w.last 48 w.some))

pub shortened-twice : (f : List ℕ) → shortened (shortened f) ≡ shortened f
unfolding shortened
shortened-twice f = ⊎_elim (λ (e : shortened f ≡ []). rw e) (ends_stay (shortened f)) (shortened-ends f)

-- decimals are what is left of them, and noughts
pub record Tail (f x : List ℕ) : Type 0 where
  pub count : ℕ
  pub is : f ≡ x ++ replicate {A = ℕ} count 48

joined-tail : (b : ℕ) (s x : List ℕ) → Tail s x → Tail (b ∷ s) (kept_before b x)
unfolding kept_before
joined-tail b s [] w = go (eqb b 48) refl
  where
    go : (t : Bool) → eqb b 48 ≡ t → Tail (b ∷ s) (cond t [] (b ∷ []))
    go true t = record { count = suc w.count; is = rw (eqb-true b 48 t) (ap (λ (l : List ℕ). 48 ∷ l) w.is) }
    go false t = record { count = w.count; is = ap (λ (l : List ℕ). b ∷ l) w.is }
joined-tail b s (c ∷ x) w = record { count = w.count; is = ap (λ (l : List ℕ). b ∷ l) w.is }

pub tail-is : (f : List ℕ) → Tail f (shortened f)
unfolding shortened
tail-is [] = record { count = 0; is = refl }
tail-is (b ∷ s) = joined-tail b s (shortened s) (tail-is s)

all-noughts : (k : ℕ) → all_in Digit (replicate {A = ℕ} k 48) ≡ true
unfolding all_in in_class is_digit is_between
all-noughts zero = refl
all-noughts (suc k) = all-noughts k

module _ (f : List ℕ) where
  -- what is left is what the decimals begin with
  pub shortened-front : take (length (shortened f)) f ≡ shortened f
  shortened-front = let w = tail-is f in ap (take (length (shortened f))) w.is ∙ take_at (shortened f) (replicate {A = ℕ} w.count 48) (length (shortened f)) refl

  pub shortened-length : length (shortened f) ≤ length f
  shortened-length =
      let w = tail-is f in
      let l : length f ≡ length (shortened f) + length (replicate {A = ℕ} w.count 48) = ap length w.is ∙ length-append (shortened f) _ in
      omega arith

  -- noughts are digits
  pub shortened-all : all_in Digit f ≡ all_in Digit (shortened f)
  shortened-all =
      let w = tail-is f in
      ap (all_in Digit) w.is ∙ all_append Digit (shortened f) (replicate {A = ℕ} w.count 48)
      ∙ rw (all-noughts w.count, and-true (all_in Digit (shortened f)))

  pub shortened-digits : all_in Digit f ≡ true → all_in Digit (shortened f) ≡ true
  shortened-digits e = sym shortened-all ∙ e

-- ---- what trimming keeps

noughts-none : (k : ℕ) → numeral (replicate {A = ℕ} k 48) ≡ 0
unfolding numeral numeral_from
noughts-none zero = refl
noughts-none (suc k) = noughts-none k

module _ (x : List ℕ) where
  pub trimmed-length : length (trimmed x) ≤ length x
  trimmed-length =
      let w = trim-is x in
      let l : length x ≡ length (replicate {A = ℕ} w.count 48) + length (trimmed x) = ap length w.is ∙ length-append (replicate {A = ℕ} w.count 48) (trimmed x) in
      omega arith

  pub trimmed-digits : all_in Digit x ≡ true → all_in Digit (trimmed x) ≡ true
  trimmed-digits e =
      let w = trim-is x in
      and_right (all_in Digit (replicate {A = ℕ} w.count 48)) _ (sym (all_append Digit (replicate {A = ℕ} w.count 48) (trimmed x)) ∙ sym (ap (all_in Digit) w.is) ∙ e)

  -- the number is the same
  pub trimmed-numeral : (f : List ℕ) → numeral (trimmed x ++ f) ≡ numeral (x ++ f)
  trimmed-numeral f =
      let w = trim-is x in
      let z : List ℕ = replicate {A = ℕ} w.count 48 in
      sym (ap (λ (l : List ℕ). numeral (l ++ f)) w.is ∙ ap numeral (append_assoc z (trimmed x) f) ∙ numeral-append z (trimmed x ++ f) ∙ rw (noughts-none w.count, zero-mul, zero-add))

pub trimmed-some : (x : List ℕ) → 1 ≤ length x → 1 ≤ length (trimmed x)
unfolding trimmed
trimmed-some [] h = h
trimmed-some (b ∷ []) h = h
trimmed-some (b ∷ c ∷ s) h = go (trimmed-some (c ∷ s)) (eqb b 48)
  where
    go : (1 ≤ length (c ∷ s) → 1 ≤ length (trimmed (c ∷ s))) → (t : Bool) → 1 ≤ length (cond t (trimmed (c ∷ s)) (b ∷ c ∷ s))
    go ih true = ih (omega arith)
    go ih false = omega arith

-- trimming drops the noughts before the last byte
pub trimmed-drop : (x : List ℕ) → trimmed x ≡ drop (noughts (take (length x - 1) x)) x
unfolding trimmed noughts
trimmed-drop [] = refl
trimmed-drop (b ∷ []) = refl
trimmed-drop (b ∷ c ∷ s) = go (trimmed-drop (c ∷ s)) (eqb b 48) refl
  where
    go : trimmed (c ∷ s) ≡ drop (noughts (take (suc (length s) - 1) (c ∷ s))) (c ∷ s) → (t : Bool) → eqb b 48 ≡ t
        → trimmed (b ∷ c ∷ s) ≡ drop (noughts (take (suc (suc (length s)) - 1) (b ∷ c ∷ s))) (b ∷ c ∷ s)
    go ih true e =
        let l : suc (suc (length s)) - 1 ≡ suc (length s) = omega arith in
        let m : suc (length s) - 1 ≡ length s = omega arith in
        rw (l, e) (ih ∙ rw m)
    go ih false e =
        let l : suc (suc (length s)) - 1 ≡ suc (length s) = omega arith in
        rw (l, e)

pub noughts-length : (x : List ℕ) → noughts x ≤ length x
unfolding noughts
noughts-length [] = omega arith
noughts-length (b ∷ s) = go (noughts-length s) (eqb b 48)
  where
    go : noughts s ≤ length s → (t : Bool) → cond t (suc (noughts s)) 0 ≤ suc (length s)
    go ih true = omega arith
    go ih false = omega arith
