-- The mathematics of the crate's functions, over plain lists and numbers: powers of ten, what each turn of reading
-- digits says of the whole part, and what each turn of putting them leaves in the buffer.
-- Assumes nothing.
use Prim.Native.Nat.{ℕ, zero, suc, ◌+◌, ◌-◌, ◌*◌, ◌/◌, ◌%◌, ◌^◌, ◌≤◌, ◌<◌}
use mathlib.Core.Path.{◌≡◌, refl, sym, ap, ◌∙◌}
use mathlib.Core.Bool.{Bool, true, false, ◌&&◌, cond}
use mathlib.Core.List.{List, [], ◌∷◌}
use native.Mathlib.Nat.{not-suc-le-zero, zero-add, pow-suc, pow-le-pow_right, lt_of_lt_of_le}
use native.Mathlib.Numerals.{add-one}
use native.Mathlib.Omega.{arith}
use lib.Arith.{digits_lt}
use lib.Dec.{leb, lit<}
use lib.ListN.{length, drop, get_or, set, drop_of_length-le}
use lib.Seq.{drop-cons}
use borrow.Author.Tests.{le-leb, lt-leb, lt-ltb, le-ltb, leb-false}
use Rattle.std.proofs.Common.{Some, None}
use Rattle.text.specs.Classes.{all_in, in_class}
use Rattle.text.specs.Copy.{over, fits, placed, after}
use Rattle.text.specs.declared.Class.TheVariants.{Digit}
use Rattle.text.proofs.Laws.{over-nil, over-set}
use Rattle.digits.specs.Numerals.{numeral_from, numeral, digits, digit_run, short_run, run_of, number_of, ten_to}
use Rattle.digits.specs.declared.Run.{Run}
use Rattle.digits.proofs.Laws.{digit_low, digit-high, length_digits, run_is, run-all, all-run}

-- ---- powers of ten

pub ten-out : (d : ℕ) → 14 < d → 0 ≡ ten_to d
unfolding ten_to
ten-out d h = rw (le-ltb d 15 h)

pub ten-more : (n i : ℕ) → n ≡ 10 ^ i → n * 10 ≡ 10 ^ (i + 1)
ten-more n i e = rw (add-one, pow-suc, e)

pub ten-small : (n i : ℕ) → n ≡ 10 ^ i → i ≤ 14 → n ≤ 10 ^ 14
ten-small n i e h = rw e (pow-le-pow_right (lit< tt) h)

pub ten-in : (d n i : ℕ) → d ≤ 14 → i ≡ d → n ≡ 10 ^ i → n ≡ ten_to d
unfolding ten_to
ten-in d n i h w e = rw (lt-ltb d 15 (omega arith), e, w)

-- ---- reading digits

-- what is read and what is still ahead: the number and the count of the digits in front are those of what was read and the rest
pub record Ahead (s : List ℕ) (n i : ℕ) : Type 0 where
  pub within : i ≤ length s
  pub small : n < 10 ^ i
  pub spells : numeral_from n (digit_run (drop i s)) ≡ numeral (digit_run s)
  pub counts : i + length (digit_run (drop i s)) ≡ length (digit_run s)

pub ahead-all : (s : List ℕ) → Ahead s 0 0
unfolding numeral
ahead-all s = record { within = omega arith; small = lit< tt; spells = refl; counts = zero-add _ }

-- the number and the count that are promised of a part
abbrev pub Ran : List ℕ → ℕ → ℕ → Type 0
Ran s n i = (n ≡ numeral (short_run s)) × (i ≡ length (short_run s))

pub ran-is : (s : List ℕ) (n i : ℕ) → Ran s n i → record { number = n; len = i } ≡ run_of s
unfolding run_of
ran-is s n i r = rw (r.0, r.1)

pub ran-of : (s : List ℕ) (r : Run) → r ≡ run_of s → Ran s r.number r.len
unfolding run_of
ran-of s r e = (ap (λ (x : Run). x.number) e, ap (λ (x : Run). x.len) e)

pub too_long : (s : List ℕ) → 18 < length s → Ran s 0 0
unfolding short_run numeral numeral_from
too_long s h = (rw (lt-leb (length s) 18 h), rw (lt-leb (length s) 18 h))

module _ (s : List ℕ) (n i : ℕ) (a : Ahead s n i) (short : length s ≤ 18) where
  pub small-enough : n < 10 ^ 18
  small-enough =
      let w = a.within in
      let k : i ≤ 18 = omega arith in
      lt_of_lt_of_le a.small (pow-le-pow_right (lit< tt) k)

  -- no digit stands ahead
  ended : digit_run (drop i s) ≡ [] → Ran s n i
  unfolding short_run numeral_from
  ended e =
      let k : i + 0 ≡ length (digit_run s) = rw e at a.counts in
      (rw (le-leb (length s) 18 short) (sym (ap (numeral_from n) e) ∙ a.spells), rw (le-leb (length s) 18 short) (omega arith))

  module _ (more : i < length s) where
    next-is : drop i s ≡ get_or s i 0 ∷ drop (i + 1) s
    next-is = rw add-one (drop-cons s i 0 more)

    pub stop : in_class Digit (get_or s i 0) ≡ false → Ran s n i
    unfolding digit_run
    stop e = ended (rw (next-is, e))

    pub again : in_class Digit (get_or s i 0) ≡ true → Ahead s (n * 10 + (get_or s i 0 - 48)) (i + 1)
    unfolding numeral_from digit_run
    again e =
        let low = digit_low _ e in
        let high = digit-high _ e in
        let v : get_or s i 0 - 48 < 10 = omega arith in
        let run : digit_run (drop i s) ≡ get_or s i 0 ∷ digit_run (drop (i + 1) s) = rw (next-is, e) in
        record {
          within = omega arith;
          small = rw (add-one, pow-suc) (digits_lt a.small v);
          spells = sym (ap (numeral_from n) run) ∙ a.spells;
          counts = let k = sym (ap length run) in let c = a.counts in omega arith;
        }

  pub done : length s ≤ i → Ran s n i
  unfolding digit_run
  done h = ended (rw (drop_of_length-le s h))

-- a part is a number where the digits in front are all of it
module _ (s : List ℕ) (n k : ℕ) (ran : Ran s n k) where
  pub whole_run : k ≡ length s → Some n ≡ number_of s
  unfolding number_of short_run
  whole_run e = go (leb (length s) 18) refl
    where
      go : (b : Bool) → leb (length s) 18 ≡ b → Some n ≡ cond (b && all_in Digit s) (Some (numeral s)) None
      go true t =
          let l : length (digit_run s) ≡ length s = sym (rw t at ran.1) ∙ e in
          let m : n ≡ numeral (digit_run s) = rw t at ran.0 in
          rw (m, run_is s l, run-all s l)
      go false t =
          let z : k ≡ 0 = rw t at ran.1 in
          let l : 18 < length s = leb-false _ _ t in
          absurd (omega arith)

  pub part-run : (k ≡ length s → ⊥) → None ≡ number_of s
  unfolding number_of short_run
  part-run e = go (leb (length s) 18) (all_in Digit s) refl refl
    where
      go : (b c : Bool) → leb (length s) 18 ≡ b → all_in Digit s ≡ c → None ≡ cond (b && c) (Some (numeral s)) None
      go true true t d =
          let l : k ≡ length (digit_run s) = rw t at ran.1 in
          absurd (e (l ∙ ap length (all-run s d)))
      go true false t d = refl
      go false c t d = refl

-- ---- putting digits

module _ (buf : List ℕ) (at : ℕ) where
  pub put-none : (width n : ℕ) → length buf < at + width → (at ≡ after buf at (digits width n)) × (buf ≡ placed buf at (digits width n))
  unfolding after placed fits
  put-none width n h =
      let l = length_digits width n in
      (rw (l, lt-leb (at + width) (length buf) h), rw (l, lt-leb (at + width) (length buf) h))

  -- a turn puts the last digit that is left
  pub put-more : (left rest : ℕ) → 0 < left → at + left ≤ length buf → over (set buf (at + (left - 1)) (48 + rest % 10)) at (digits (left - 1) (rest / 10)) ≡ over buf at (digits left rest)
  unfolding digits
  put-more zero rest h g = absurd (not-suc-le-zero h)
  put-more (suc k) rest h g =
      let e : suc k - 1 ≡ k = omega arith in
      let l : length (digits k (rest / 10)) ≡ k = length_digits k (rest / 10) in
      let room : at + length (digits k (rest / 10)) < length buf = rw l (omega arith) in
      rw e (rw l at (over-set buf at (digits k (rest / 10)) (48 + rest % 10) room))

  pub put-done : (width n : ℕ) (now : List ℕ) → at + width ≤ length buf → over now at (digits 0 n) ≡ over buf at (digits width n) → (at + width ≡ after buf at (digits width n)) × (now ≡ placed buf at (digits width n))
  unfolding digits after placed fits
  put-done width n now h e =
      let l = length_digits width n in
      (rw (l, le-leb (at + width) (length buf) h), rw (l, le-leb (at + width) (length buf) h) (sym (over-nil now at) ∙ e))
