-- The mathematics of reading, over plain numbers and lists: a date and a time of day in the pairs of digits that spell them, and
-- both in the digits of a moment.
-- Assumes nothing.
use Prim.Native.Nat.{ℕ, suc, ◌+◌, ◌-◌, ◌*◌, ◌/◌, ◌%◌, ◌^◌, ◌≤◌, ◌<◌}
use mathlib.Core.Path.{◌≡◌, refl, sym, ap, ◌∙◌}
use mathlib.Core.Bool.{Bool, true, false, ◌&&◌, cond, and-false}
use mathlib.Core.List.{List, ◌∷◌}
use native.Mathlib.Nat.{zero-add}
use native.Mathlib.Numerals.{add-one}
use native.Mathlib.Omega.{arith}
use lib.Dec.{leb, eqb, lit<}
use lib.ListN.{length, take, drop, get_or, length-drop, take-append-drop}
use lib.Seq.{drop-cons, drop-drop, take-add, length-take-le, take-length}
use borrow.Author.Tests.{le-leb, lt-leb, eq-eqb, ne_eqb}
use Rattle.std.proofs.Common.{Option, Some, None}
use Rattle.text.specs.Classes.{all_in, in_class}
use Rattle.text.specs.declared.Class.TheVariants.{Digit}
use Rattle.text.proofs.Laws.{and_left, and_right, and_both, all_append}
use Rattle.digits.specs.Numerals.{numeral, numeral_from}
use Rattle.digits.proofs.Laws.{digit_low, digit-high, numeral-append, numeral-lt, fixed-is}
use Rattle.calendar.specs.Dates.{year, month, day, is_day, is_date, is_time, is_moment, two, date_from, date_read, time_from, moment_of, moment_from, moment_read}
use Rattle.calendar.specs.declared.Date.{Date}

-- ---- digits in two parts

all-parts : (k : ℕ) (s : List ℕ) → all_in Digit s ≡ (all_in Digit (take k s) && all_in Digit (drop k s))
all-parts k s = sym (ap (all_in Digit) (take-append-drop k s)) ∙ all_append Digit (take k s) (drop k s)

front-digits : (k : ℕ) (s : List ℕ) → all_in Digit s ≡ true → all_in Digit (take k s) ≡ true
front-digits k s e = and_left _ _ (sym (all-parts k s) ∙ e)

back-digits : (k : ℕ) (s : List ℕ) → all_in Digit s ≡ true → all_in Digit (drop k s) ≡ true
back-digits k s e = and_right (all_in Digit (take k s)) _ (sym (all-parts k s) ∙ e)

-- ---- two digits at a place

module _ (s : List ℕ) (at : ℕ) (room : at + 2 ≤ length s) (all : all_in Digit s ≡ true) where
  next : drop at s ≡ get_or s at 0 ∷ get_or s (at + 1) 0 ∷ drop (suc (suc at)) s
  next = rw add-one (drop-cons s at 0 (omega arith) ∙ ap (λ (l : List ℕ). get_or s at 0 ∷ l) (drop-cons s (suc at) 0 (omega arith)))

  both : (in_class Digit (get_or s at 0) ≡ true) × (in_class Digit (get_or s (at + 1) 0) ≡ true)
  unfolding all_in
  both =
      let e = sym (ap (all_in Digit) next) ∙ back-digits at s all in
      (and_left _ _ e, and_left _ _ (and_right (in_class Digit (get_or s at 0)) _ e))

  pub high : (get_or s at 0 ≤ 57) × (get_or s (at + 1) 0 ≤ 57)
  high = (digit-high _ both.0, digit-high _ both.1)

  pub low : (48 ≤ get_or s at 0) × (48 ≤ get_or s (at + 1) 0)
  low = (digit_low _ both.0, digit_low _ both.1)

  two_is : two s at ≡ (get_or s at 0 - 48) * 10 + (get_or s (at + 1) 0 - 48)
  unfolding numeral numeral_from
  two_is = ap (λ (l : List ℕ). numeral (take 2 l)) next ∙ rw zero-add

  pub pair_is : (get_or s at 0 * 10 + get_or s (at + 1) 0 - 528 ≡ two s at) × (get_or s at 0 * 10 + get_or s (at + 1) 0 - 528 < 100)
  pair_is =
      let l = low in
      let h = high in
      (rw two_is (omega arith), omega arith)

-- what is known of a pair that was read
abbrev pub Two : List ℕ → ℕ → ℕ → Type 0
Two s at n = (n ≡ two s at) × (n < 100)

-- two more digits
more : (s : List ℕ) (k : ℕ) → k + 2 ≤ length s → numeral (take (k + 2) s) ≡ numeral (take k s) * 100 + two s k
more s k h =
    let l : length (take 2 (drop k s)) ≡ 2 = length-take-le 2 (drop k s) (rw length-drop (omega arith)) in
    rw (take-add k 2 s, numeral-append (take k s) (take 2 (drop k s)), l)

-- ---- a date

date-parts : (y m d : ℕ) → m < 100 → d < 100 → is_date (y * 10000 + m * 100 + d) ≡ is_day y m d
unfolding is_date year month day
date-parts y m d h g =
    let a : (y * 10000 + m * 100 + d) / 10000 ≡ y = omega arith in
    let b : (y * 10000 + m * 100 + d) / 100 % 100 ≡ m = omega arith in
    let c : (y * 10000 + m * 100 + d) % 100 ≡ d = omega arith in
    rw (a, b, c)

module _ (s : List ℕ) (long : 8 ≤ length s) (a b m d : ℕ) (p : Two s 0 a) (q : Two s 2 b) (r : Two s 4 m) (t : Two s 6 d) where
  date-number : numeral (take 8 s) ≡ (a * 100 + b) * 10000 + m * 100 + d
  date-number =
      more s 6 (omega arith) ∙ rw (more s 4 (omega arith), more s 2 (omega arith), ← p.0, ← q.0, ← r.0, ← t.0) (omega arith)

  pub date-good : is_day (a * 100 + b) m d ≡ true → Some (record { 0 = (a * 100 + b) * 10000 + m * 100 + d }) ≡ date_from (Some (numeral (take 8 s)))
  unfolding date_from
  date-good e = rw (date-number, date-parts (a * 100 + b) m d r.1 t.1, e)

  pub date-wrong : is_day (a * 100 + b) m d ≡ false → None ≡ date_from (Some (numeral (take 8 s)))
  unfolding date_from
  date-wrong e = rw (date-number, date-parts (a * 100 + b) m d r.1 t.1, e)

-- a part of eight bytes
module _ (s : List ℕ) where
  pub not_eight : (length s ≡ 8 → ⊥) → None ≡ date_read s
  unfolding date_read date_from
  not_eight h = rw (fixed-is 8 s (lit< tt), ne_eqb (length s) 8 h)

  pub eight-wrong : all_in Digit s ≡ false → None ≡ date_read s
  unfolding date_read date_from
  eight-wrong e = rw (fixed-is 8 s (lit< tt), e, and-false (eqb (length s) 8))

  pub eight : length s ≡ 8 → all_in Digit s ≡ true → date_from (Some (numeral (take 8 s))) ≡ date_read s
  unfolding date_read
  eight h e =
      let t : take 8 s ≡ s = ap (λ (k : ℕ). take k s) (sym h) ∙ take-length s in
      rw (t, fixed-is 8 s (lit< tt), eq-eqb (length s) 8 h, e)

-- ---- a time of day

time-parts : (h m s : ℕ) → m < 100 → s < 100 → is_time (h * 10000 + m * 100 + s) ≡ (leb h 23 && (leb m 59 && leb s 59))
unfolding is_time
time-parts h m s g f =
    let a : (h * 10000 + m * 100 + s) / 10000 ≡ h = omega arith in
    let b : (h * 10000 + m * 100 + s) / 100 % 100 ≡ m = omega arith in
    let c : (h * 10000 + m * 100 + s) % 100 ≡ s = omega arith in
    rw (a, b, c)

module _ (s : List ℕ) (long : 14 ≤ length s) (a b d : ℕ) (p : Two s 8 a) (q : Two s 10 b) (r : Two s 12 d) where
  time-number : numeral (take 6 (drop 8 s)) ≡ a * 10000 + b * 100 + d
  time-number =
      let l : length (drop 8 s) ≡ length s - 8 = length-drop 8 s in
      more (drop 8 s) 4 (omega arith)
      ∙ rw (more (drop 8 s) 2 (omega arith), drop-drop 4 8 s, drop-drop 2 8 s, ← p.0, ← q.0, ← r.0) (omega arith)

  pub hour-wrong : 23 < a → None ≡ time_from (numeral (take 6 (drop 8 s)))
  unfolding time_from
  hour-wrong h = rw (time-number, time-parts a b d q.1 r.1, lt-leb a 23 h)

  module _ (hour : a ≤ 23) where
    pub minute-wrong : 59 < b → None ≡ time_from (numeral (take 6 (drop 8 s)))
    unfolding time_from
    minute-wrong h = rw (time-number, time-parts a b d q.1 r.1, le-leb a 23 hour, lt-leb b 59 h)

    module _ (minute : b ≤ 59) where
      pub second-wrong : 59 < d → None ≡ time_from (numeral (take 6 (drop 8 s)))
      unfolding time_from
      second-wrong h = rw (time-number, time-parts a b d q.1 r.1, le-leb a 23 hour, le-leb b 59 minute, lt-leb d 59 h)

      pub time-good : d ≤ 59 → Some (a * 10000 + b * 100 + d) ≡ time_from (numeral (take 6 (drop 8 s)))
      unfolding time_from
      time-good h = rw (time-number, time-parts a b d q.1 r.1, le-leb a 23 hour, le-leb b 59 minute, le-leb d 59 h)

-- ---- a moment

module _ (s : List ℕ) where
  pub not-fourteen : (length s ≡ 14 → ⊥) → None ≡ moment_read s
  unfolding moment_read moment_from
  not-fourteen h = rw (fixed-is 14 s (lit< tt), ne_eqb (length s) 14 h)

  wrong-digits : all_in Digit s ≡ false → None ≡ moment_read s
  unfolding moment_read moment_from
  wrong-digits e = rw (fixed-is 14 s (lit< tt), e, and-false (eqb (length s) 14))

  pub front-wrong : all_in Digit (take 8 s) ≡ false → None ≡ moment_read s
  front-wrong e = wrong-digits (all-parts 8 s ∙ rw e)

  pub back-wrong : all_in Digit (drop 6 s) ≡ false → None ≡ moment_read s
  back-wrong e = wrong-digits (all-parts 6 s ∙ rw (e, and-false (all_in Digit (take 6 s))))

  -- the first eight bytes and those behind the first six are all
  pub overlap : all_in Digit (take 8 s) ≡ true → all_in Digit (drop 6 s) ≡ true → all_in Digit s ≡ true
  overlap e f =
      let w : (all_in Digit (take 6 s) && all_in Digit (take 2 (drop 6 s))) ≡ true = sym (all_append Digit (take 6 s) (take 2 (drop 6 s))) ∙ sym (ap (all_in Digit) (take-add 6 2 s)) ∙ e in
      all-parts 6 s ∙ and_both (and_left (all_in Digit (take 6 s)) _ w) f

  module _ (size : length s ≡ 14) (all : all_in Digit s ≡ true) where
    date-of : ℕ
    date-of = numeral (take 8 s)

    time-of : ℕ
    time-of = numeral (take 6 (drop 8 s))

    behind : take 6 (drop 8 s) ≡ drop 8 s
    behind =
        let l : length (drop 8 s) ≡ 6 = rw (length-drop, size) in
        ap (λ (k : ℕ). take k (drop 8 s)) (sym l) ∙ take-length (drop 8 s)

    moment-is : moment_of (numeral s) ≡ record { date = record { 0 = date-of }; time = record { 0 = time-of } }
    unfolding moment_of date-of time-of
    moment-is =
        let l : length (drop 8 s) ≡ 6 = rw (length-drop, size) in
        let small : numeral (drop 8 s) < 10 ^ 6 = rw l at (numeral-lt (drop 8 s) (back-digits 8 s all)) in
        let n : numeral s ≡ numeral (take 8 s) * 10 ^ 6 + numeral (drop 8 s) =
        sym (ap numeral (take-append-drop 8 s)) ∙ numeral-append (take 8 s) (drop 8 s) ∙ rw l
        in let d : numeral s / 1000000 ≡ numeral (take 8 s) = omega arith
        in let t : numeral s % 1000000 ≡ numeral (drop 8 s) = omega arith
        in rw (d, t, behind)

    read_is : moment_read s ≡ cond (is_date date-of && is_time time-of) (Some (record { date = record { 0 = date-of }; time = record { 0 = time-of } })) None
    unfolding moment_read moment_from is_moment
    read_is = rw (fixed-is 14 s (lit< tt), eq-eqb (length s) 14 size, all, moment-is)

    pub no-date : date_from (Some (numeral (take 8 s))) ≡ None → None ≡ moment_read s
    unfolding date_from date-of
    no-date e = go (is_date date-of) refl e
      where
        go : (b : Bool) → is_date date-of ≡ b → cond {A = Option Date} b (Some (record { 0 = date-of })) None ≡ None → None ≡ moment_read s
        go true t h = cc
        go false t h = sym (read_is ∙ rw t)

    module _ (d : Date) (dated : date_from (Some (numeral (take 8 s))) ≡ Some d) where
      date-is : (is_date date-of ≡ true) × (record { 0 = date-of } ≡ d)
      unfolding date_from date-of
      date-is = go (is_date date-of) refl dated
        where
          go : (b : Bool) → is_date date-of ≡ b → cond b (Some (record { 0 = date-of })) None ≡ Some d → (is_date date-of ≡ true) × (record { 0 = date-of } ≡ d)
          go true t h = (t, cc)
          go false t h = cc

      pub no-time : time_from (numeral (take 6 (drop 8 s))) ≡ None → None ≡ moment_read s
      unfolding time_from time-of
      no-time e = go (is_time time-of) refl e
        where
          go : (b : Bool) → is_time time-of ≡ b → cond b (Some time-of) None ≡ None → None ≡ moment_read s
          go true t h = cc
          go false t h = sym (read_is ∙ rw (t, and-false (is_date date-of)))

      pub moment-good : (t : ℕ) → time_from (numeral (take 6 (drop 8 s))) ≡ Some t → Some (record { date = d; time = record { 0 = t } }) ≡ moment_read s
      unfolding time_from time-of
      moment-good t e = go (is_time time-of) refl e
        where
          go : (b : Bool) → is_time time-of ≡ b → cond b (Some time-of) None ≡ Some t → Some (record { date = d; time = record { 0 = t } }) ≡ moment_read s
          go true f h =
              let u : time-of ≡ t = cc in
              sym (read_is ∙ rw (date-is.0, f, u, date-is.1))
          go false f h = cc
