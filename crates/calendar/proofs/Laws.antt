-- What callers cite: a date or moment and its digits tell each other, and dates stand in the order of their numbers.
-- Assumes nothing.
use Prim.Native.Nat.{ℕ, ◌+◌, ◌*◌, ◌/◌, ◌%◌, ◌^◌, ◌≤◌, ◌<◌}
use mathlib.Core.Path.{◌≡◌, refl, sym, ◌∙◌}
use mathlib.Core.Bool.{Bool, true, false, ◌&&◌, ◌||◌, cond}
use mathlib.Core.List.{List, []}
use native.Mathlib.Nat.{mod-lt, div-add-mod'}
use native.Mathlib.Omega.{arith}
use lib.Arith.{digits_lt}
use lib.Dec.{leb, ltb, eqb, lit<}
use lib.ListN.{length}
use borrow.Author.Tests.{leb-true, lt-ltb, le-ltb, ltb-true, ltb-false, eqb-true, eqb-false}
use Rattle.std.proofs.Common.{Option, Some, None}
use Rattle.text.specs.Classes.{all_in}
use Rattle.text.specs.declared.Class.TheVariants.{Digit}
use Rattle.text.proofs.Laws.{and_left, and_right}
use Rattle.digits.specs.Numerals.{digits, wide_number}
use Rattle.digits.proofs.Laws.{length_digits, all_digits, fixed-digits, fixed_back}
use Rattle.calendar.specs.Dates.{year, month, day, is_date, is_time, is_moment, earlier, date_from, date_read, moment_of, moment_from, moment_read, date_text, moment_text}
use Rattle.calendar.specs.declared.Date.{Date}
use Rattle.calendar.specs.declared.Moment.{Moment}

-- ---- order

less : (k a b : ℕ) → 0 < k → a / k < b / k → a < b
less k a b p h =
    let l : a / k * k + a % k < b / k * k = digits_lt h (mod-lt a p) in
    omega (arith, div-add-mod' a k, div-add-mod' b k)

-- numbers are ordered as their quotients are, and where those are the same as their rests
by_parts : (k a b : ℕ) → 0 < k → ltb a b ≡ (ltb (a / k) (b / k) || (eqb (a / k) (b / k) && ltb (a % k) (b % k)))
by_parts k a b p = go (ltb (a / k) (b / k)) (eqb (a / k) (b / k)) (ltb (a % k) (b % k)) refl refl refl
  where
    go : (x y z : Bool) → ltb (a / k) (b / k) ≡ x → eqb (a / k) (b / k) ≡ y → ltb (a % k) (b % k) ≡ z → ltb a b ≡ (x || (y && z))
    go true y z e f g = lt-ltb a b (less k a b p (ltb-true _ _ e))
    go false true true e f g =
        let q : a / k ≡ b / k = eqb-true _ _ f in
        let r : a % k < b % k = ltb-true _ _ g in
        lt-ltb a b (omega (arith, div-add-mod' a k, rw (← q) at (div-add-mod' b k)))
    go false true false e f g =
        let q : a / k ≡ b / k = eqb-true _ _ f in
        let r : b % k ≤ a % k = ltb-false _ _ g in
        le-ltb a b (omega (arith, div-add-mod' a k, rw (← q) at (div-add-mod' b k)))
    go false false z e f g =
        let q : a / k ≡ b / k → ⊥ = eqb-false _ _ f in
        let l : b / k ≤ a / k = ltb-false _ _ e in
        let m : b < a = less k b a p (omega arith) in
        le-ltb a b (omega arith)

-- one date is earlier than another exactly when its number is less, for all numbers
pub earlier-is : (a b : Date) → ltb a.0 b.0 ≡ earlier a b
unfolding earlier year month day
earlier-is a b =
    by_parts 10000 a.0 b.0 (lit< tt)
    ∙ rw (by_parts 100 (a.0 % 10000) (b.0 % 10000) (lit< tt), high a.0, high b.0, low a.0, low b.0)
  where
    high : (n : ℕ) → n % 10000 / 100 ≡ n / 100 % 100
    high n = omega arith

    low : (n : ℕ) → n % 10000 % 100 ≡ n % 100
    low n = omega arith

-- ---- the size of what is in form

pub date-small : (n : ℕ) → is_date n ≡ true → n < 10 ^ 8
unfolding is_date year
date-small n e =
    let y : n / 10000 ≤ 9999 = leb-true _ _ (and_left _ _ (and_right (leb 1 (n / 10000)) _ e)) in
    omega arith

pub time-small : (n : ℕ) → is_time n ≡ true → n < 10 ^ 6
unfolding is_time
time-small n e =
    let h : n / 10000 ≤ 23 = leb-true _ _ (and_left _ _ e) in
    omega arith

-- the number that a moment's fourteen digits spell
abbrev pub spelled : Moment → ℕ
spelled m = m.date.0 * 1000000 + m.time.0

module _ (m : Moment) (e : is_moment m ≡ true) where
  parts-small : (m.date.0 < 10 ^ 8) × (m.time.0 < 10 ^ 6)
  unfolding is_moment
  parts-small = (date-small m.date.0 (and_left _ _ e), time-small m.time.0 (and_right (is_date m.date.0) _ e))

  pub moment-small : spelled m < 10 ^ 14
  moment-small = let p = parts-small in omega arith

  moment-of : moment_of (spelled m) ≡ m
  unfolding moment_of
  moment-of =
      let p = parts-small in
      let d : spelled m / 1000000 ≡ m.date.0 = omega arith in
      let t : spelled m % 1000000 ≡ m.time.0 = omega arith in
      rw (d, t)

-- ---- what is written in a fixed number of digits, and read from them

-- a T in form is written as `width` digits of its number, and anything else as nothing; a part of `width` digits is read as the
-- T of its number where that is in form, and anything else is wrong
record Form (T R : Type 0) (ok : T → Bool) (text : T → List ℕ) (read : List ℕ → R) (good : T → R) : Type 0 where
  width : ℕ
  number : T → ℕ
  of : ℕ → T
  wrong : R
  from : Option ℕ → R
  short : width ≤ 18
  text-is : (t : T) → text t ≡ cond (ok t) (digits width (number t)) []
  read_is : (s : List ℕ) → read s ≡ from (wide_number width s)
  from_is : (n : ℕ) → from (Some n) ≡ cond (ok (of n)) (good (of n)) wrong
  from-not : from None ≡ wrong
  small : (t : T) → ok t ≡ true → number t < 10 ^ width
  of_number : (t : T) → ok t ≡ true → of (number t) ≡ t
  number_of : (n : ℕ) → number (of n) ≡ n
  good-one : (t u : T) → good t ≡ good u → t ≡ u
  good-not : (t : T) → wrong ≡ good t → ⊥

module _ {T R : Type 0} {ok : T → Bool} {text : T → List ℕ} {read : List ℕ → R} {good : T → R} (f : Form T R ok text read good) where
  in-digits : (t : T) → ok t ≡ true → text t ≡ digits f.width (f.number t)
  in-digits t e = f.text-is t ∙ rw e

  round : (t : T) → ok t ≡ true → read (text t) ≡ good t
  round t e =
      rw (in-digits t e, f.read_is, fixed-digits f.width (f.number t) f.short (f.small t e), f.from_is, f.of_number t e, e)

  back : (s : List ℕ) (t : T) → read s ≡ good t → (ok t ≡ true) × (text t ≡ s)
  back s t e = go (wide_number f.width s) refl (sym (f.read_is s) ∙ e)
    where
      good_of : (n : ℕ) (b : Bool) → ok (f.of n) ≡ b → cond b (good (f.of n)) f.wrong ≡ good t → (ok t ≡ true) × (f.number t ≡ n)
      good_of n true o g =
          let u : f.of n ≡ t = f.good-one (f.of n) t g in
          (rw u at o, rw (← u) (f.number_of n))
      good_of n false o g = absurd (f.good-not t g)

      go : (v : Option ℕ) → wide_number f.width s ≡ v → f.from v ≡ good t → (ok t ≡ true) × (text t ≡ s)
      go (Some n) h g =
          let o = good_of n (ok (f.of n)) refl (sym (f.from_is n) ∙ g) in
          (o.0, in-digits t o.0 ∙ rw o.1 (fixed_back f.width s n f.short h))
      go None h g = absurd (f.good-not t (sym f.from-not ∙ g))

  same : (s s' : List ℕ) (t : T) → read s ≡ good t → read s' ≡ good t → s ≡ s'
  same s s' t e e' = sym (back s t e).1 ∙ (back s' t e').1

  long : (t : T) → ok t ≡ true → length (text t) ≡ f.width
  long t e = rw (in-digits t e) (length_digits f.width (f.number t))

  -- what is not in form is written as nothing, which is of digits too
  of-digits : (t : T) → all_in Digit (text t) ≡ true
  unfolding all_in
  of-digits t = rw (f.text-is t) (go (ok t))
    where
      go : (b : Bool) → all_in Digit (cond b (digits f.width (f.number t)) []) ≡ true
      go true = all_digits f.width (f.number t)
      go false = refl

-- ---- dates

dates : Form Date (Option Date) (λ d. is_date d.0) date_text date_read Some
unfolding date_text date_read date_from
dates = record {
  width = 8;
  number = λ d. d.0;
  of = λ n. record { 0 = n };
  wrong = None;
  from = date_from;
  short = lit< tt;
  text-is = λ d. refl;
  read_is = λ s. refl;
  from_is = λ n. refl;
  from-not = refl;
  small = λ d. date-small d.0;
  of_number = λ d e. refl;
  number_of = λ n. refl;
  good-one = λ d e h. cc;
  good-not = λ d h. cc;
}

pub date-round : (d : Date) → is_date d.0 ≡ true → date_read (date_text d) ≡ Some d
date-round = round dates

pub date-back : (s : List ℕ) (d : Date) → date_read s ≡ Some d → (is_date d.0 ≡ true) × (date_text d ≡ s)
date-back = back dates

pub date-same : (s t : List ℕ) (d : Date) → date_read s ≡ Some d → date_read t ≡ Some d → s ≡ t
date-same = same dates

pub date-length : (d : Date) → is_date d.0 ≡ true → length (date_text d) ≡ 8
unfolding dates
date-length = long dates

pub date-digits : (d : Date) → all_in Digit (date_text d) ≡ true
date-digits = of-digits dates

-- ---- moments

moments : Form Moment (Option Moment) is_moment moment_text moment_read Some
unfolding moment_text moment_read moment_from moment_of
moments = record {
  width = 14;
  number = spelled;
  of = moment_of;
  wrong = None;
  from = moment_from;
  short = lit< tt;
  text-is = λ m. refl;
  read_is = λ s. refl;
  from_is = λ n. refl;
  from-not = refl;
  small = moment-small;
  of_number = moment-of;
  number_of = λ n. omega arith;
  good-one = λ d e h. cc;
  good-not = λ d h. cc;
}

pub moment-round : (m : Moment) → is_moment m ≡ true → moment_read (moment_text m) ≡ Some m
moment-round = round moments

pub moment-back : (s : List ℕ) (m : Moment) → moment_read s ≡ Some m → (is_moment m ≡ true) × (moment_text m ≡ s)
moment-back = back moments

pub moment-same : (s t : List ℕ) (m : Moment) → moment_read s ≡ Some m → moment_read t ≡ Some m → s ≡ t
moment-same = same moments

pub moment-length : (m : Moment) → is_moment m ≡ true → length (moment_text m) ≡ 14
unfolding moments
moment-length = long moments

pub moment-digits : (m : Moment) → all_in Digit (moment_text m) ≡ true
moment-digits = of-digits moments
