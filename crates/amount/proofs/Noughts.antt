-- The mathematics of the crate's functions, over plain lists and numbers: the two looks for the first byte that is no nought, the meaning of a
-- whole part and decimals, and the line that an amount is put from.
-- Assumes nothing.
use Prim.Native.Nat.{ℕ, zero, suc, ◌+◌, ◌-◌, ◌*◌, ◌^◌, ◌≤◌, ◌<◌}
use mathlib.Core.Path.{◌≡◌, refl, sym, ap, ◌∙◌}
use mathlib.Core.Bool.{Bool, true, false, and-false, cond, not}
use mathlib.Core.List.{List, [], ◌∷◌, ◌++◌, append-nil, reverse, reverse-cons, reverse-append}
use mathlib.Core.Logic.{⊎_elim}
use native.Mathlib.Nat.{zero-add, lt_trans, lt_of_lt_of_le, pow-le-pow_right}
use native.Mathlib.Omega.{arith}
use lib.Arith.{digits_lt}
use lib.Dec.{leb, ltb, eqb, lit<}
use lib.ListN.{length, take, drop, get_or, replicate, length-append, length-take, length-drop, length-replicate, drop_of_length-le}
use lib.Seq.{drop-cons, length-take-le, append_snoc, take_at, take-append-le, drop-append-le}
use borrow.Author.Tests.{le-leb, lt-leb, lt-ltb, le-ltb, ltb-false, ne_eqb}
use Rattle.std.proofs.Common.{Some, None}
use Rattle.std.specs.List.{position, position_or_len}
use Rattle.std.specs.Option.{unwrap_or}
use Rattle.text.specs.Bytes.{before}
use Rattle.text.specs.Classes.{all_in, in_class}
use Rattle.text.specs.Copy.{over, fits, placed}
use Rattle.text.specs.declared.Class.TheVariants.{Digit}
use Rattle.text.proofs.Laws.{all_append, drop-replicate, rest_of, placed-all}
use Rattle.digits.specs.Numerals.{numeral, digits, digit_run, short_run, number_of, ten_to}
use Rattle.digits.proofs.Laws.{pow-add, number_is, number-not, numeral-lt, numeral-append, length_digits, run_length, run-digits, run-next}
use Rattle.digits.proofs.Spelling.{Ran}
use Rattle.amount.specs.Amounts.{whole, decimals, is_amount, trimmed, shortened, meaning_of, meaning, amount_read, parts_read, in_form, spread, amount_text, noughts}
use Rattle.amount.specs.declared.Amount.{Amount}
use Rattle.amount.proofs.Laws.{few-decimals, front, rest, rest-length, rest-stays, text-parts}
use Rattle.amount.proofs.Trims.{trimmed-drop, noughts-length, Ends, shortened-ends, tail-is as tail_of, shortened-front, shortened-length, shortened-all, whole_run}

-- ---- the first byte that is no nought

-- a byte that is no nought
abbrev pub other : ℕ → Bool
other b = not (eqb b 48)

other-noughts : (s : List ℕ) → position_or_len other s ≡ noughts s
unfolding noughts
other-noughts [] = refl
other-noughts (b ∷ s) = go (other-noughts s) (eqb b 48)
  where
    go : position_or_len other s ≡ noughts s → (t : Bool) → cond (not (not t)) (1 + position_or_len other s) 0 ≡ cond t (suc (noughts s)) 0
    go ih true = omega arith
    go ih false = refl

-- in front of it are the noughts, and where there is none all are
pub first-other : (s : List ℕ) (n : ℕ) → n ≡ length s → unwrap_or (position other s) n ≡ noughts s
first-other s n long = rw (long, other-noughts s) (go (ltb (noughts s) (length s)) refl)
  where
    go : (t : Bool) → ltb (noughts s) (length s) ≡ t → unwrap_or (cond t (Some (noughts s)) None) (length s) ≡ noughts s
    go true e = refl
    go false e = let h = noughts-length s in let g = ltb-false _ _ e in omega arith

-- ---- the noughts at the end of decimals

noughts-more : (k : ℕ) (s : List ℕ) → noughts (replicate {A = ℕ} k 48 ++ s) ≡ k + noughts s
unfolding noughts
noughts-more zero s = omega arith
noughts-more (suc k) s = let h = noughts-more k s in omega arith

reverse-noughts : (k : ℕ) → reverse (replicate {A = ℕ} k 48) ≡ replicate {A = ℕ} k 48
reverse-noughts zero = refl
reverse-noughts (suc k) = rw (reverse-cons, reverse-noughts k) (onto k)
  where
    onto : (k : ℕ) → replicate {A = ℕ} k 48 ++ 48 ∷ [] ≡ 48 ∷ replicate {A = ℕ} k 48
    onto zero = refl
    onto (suc k) = ap (λ (l : List ℕ). 48 ∷ l) (onto k)

-- what they leave is what is left of the decimals
pub last-other : (s : List ℕ) → length (shortened s) + noughts (reverse s) ≡ length s
unfolding noughts
last-other s =
    let w = tail_of s in
    let n : noughts (reverse s) ≡ w.count + noughts (reverse (shortened s)) =
    ap (λ (l : List ℕ). noughts (reverse l)) w.is ∙ rw (reverse-append, reverse-noughts w.count) (noughts-more w.count _)
    in
    let l : length s ≡ length (shortened s) + w.count = ap length w.is ∙ rw (length-append, length-replicate)
    in
    let z : noughts (reverse (shortened s)) ≡ 0 = ⊎_elim (λ (e : shortened s ≡ []). rw e) none (shortened-ends s) in
    omega arith
  where
    none : Ends (shortened s) → noughts (reverse (shortened s)) ≡ 0
    none x = rw (x.is, reverse-append, ne_eqb x.last 48 x.some)

-- ---- the meaning of a whole part's number and decimals

module _ (n : ℕ) (f : List ℕ) (k : ℕ) (kept : k ≡ length (shortened f)) where
  front-is : take k f ≡ shortened f
  front-is = ap (λ (i : ℕ). take i f) kept ∙ shortened-front f

  pub within : k ≤ length f
  within = let l = shortened-length f in omega arith

  module _ (few : length f ≤ 13) (low : n < 10 ^ (14 - length f)) where
    pub rest-wrong : number_of (take k f) ≡ None → None ≡ parts_read n f
    unfolding parts_read
    rest-wrong e =
        let l = shortened-length f in
        let d : all_in Digit f ≡ false = shortened-all f ∙ number-not (shortened f) (omega arith) (sym (ap number_of front-is) ∙ e) in
        rw d

    module _ (m t : ℕ) (tail : number_of (take k f) ≡ Some m) (power : t ≡ ten_to k) where
      power-is : t ≡ 10 ^ length (shortened f)
      unfolding ten_to
      power-is = let l = shortened-length f in power ∙ rw (kept, lt-ltb (length (shortened f)) 15 (omega arith))

      tail-is : (all_in Digit (shortened f) ≡ true) × (numeral (shortened f) ≡ m)
      tail-is = number_is (shortened f) m (sym (ap number_of front-is) ∙ tail)

      pub room : n * t + m < 2 ^ 64
      room =
          let l = shortened-length f in
          let e : ℕ = length (shortened f) in
          let j : 14 - length f + e ≤ 14 = omega arith in
          let a : n * 10 ^ e + numeral (shortened f) < 10 ^ (14 - length f) * 10 ^ e = digits_lt low (numeral-lt (shortened f) tail-is.0) in
          let b : 10 ^ (14 - length f) * 10 ^ e ≤ 10 ^ 14 = rw (pow-add (14 - length f) e) at (pow-le-pow_right {n = 10} (lit< tt) j) in
          rw (power-is, ← tail-is.1) (lt_trans (lt_of_lt_of_le a b) (lit< tt))

      pub parts-good : Some (record { number = n * t + m; decimals = k }) ≡ parts_read n f
      unfolding parts_read
      parts-good = rw (shortened-all f, tail-is.0, power-is, ← tail-is.1, kept)

-- ---- a text and its comma

module _ (s : List ℕ) where
  pub too_long : 15 < length s → None ≡ amount_read s
  unfolding amount_read is_amount
  too_long h = rw (lt-leb (length s) 15 h)

  wrong-whole : all_in Digit (whole s) ≡ false → None ≡ amount_read s
  unfolding amount_read is_amount
  wrong-whole e = rw (e, and-false (leb 1 (length (whole s))), and-false (ltb (length (whole s)) (length s)), and-false (leb (length s) 15))

  module _ (short : length s ≤ 15) (n k : ℕ) (ran : Ran s n k) where
    spelled : n ≡ numeral (digit_run s)
    unfolding short_run
    spelled = rw (le-leb (length s) 18 (omega arith)) at ran.0

    counted : k ≡ length (digit_run s)
    unfolding short_run
    counted = rw (le-leb (length s) 18 (omega arith)) at ran.1

    whole_from : whole s ≡ digit_run s ++ whole (drop k s)
    whole_from = rw counted (whole_run s)

    pub no-comma : k ≡ length s → None ≡ amount_read s
    unfolding amount_read is_amount whole before
    no-comma h =
        let l : length s ≤ k = omega arith in
        let nil : drop k s ≡ [] = drop_of_length-le s l in
        let e : whole s ≡ digit_run s = whole_from ∙ rw (nil, append-nil) in
        rw (le-leb (length s) 15 short, e, ← counted, h, le-ltb (length s) (length s) (omega arith))

    module _ (more : k ≡ length s → ⊥) where
      pub inside : k < length s
      inside = let l = run_length s in let e = counted in omega arith

      next-is : drop k s ≡ get_or s k 0 ∷ drop (suc k) s
      next-is = drop-cons s k 0 inside

      -- what stands behind the digits is neither a digit nor the comma
      pub no_digit : (get_or s k 0 ≡ 44 → ⊥) → None ≡ amount_read s
      unfolding whole before all_in
      no_digit h =
          let d : in_class Digit (get_or s k 0) ≡ false = rw counted (run-next s (rw counted at inside)) in
          let w : whole s ≡ digit_run s ++ get_or s k 0 ∷ whole (drop (suc k) s) = whole_from ∙ rw (next-is, ne_eqb (get_or s k 0) 44 h) in
          wrong-whole (ap (all_in Digit) w ∙ all_append Digit (digit_run s) _ ∙ rw (d, and-false (all_in Digit (digit_run s))))

      module _ (comma : get_or s k 0 ≡ 44) where
        whole_is : whole s ≡ digit_run s
        unfolding whole before
        whole_is = whole_from ∙ rw (next-is, comma, append-nil)

        whole-count : length (whole s) ≡ k
        whole-count = ap length whole_is ∙ sym counted

        pub no_whole : k ≡ 0 → None ≡ amount_read s
        unfolding amount_read is_amount
        no_whole h = rw (le-leb (length s) 15 short, whole-count, h, and-false (ltb 0 (length s)))

        module _ (some : k ≡ 0 → ⊥) (rest : List ℕ) (is : rest ≡ drop (k + 1) s) where
          rest-count : length rest + k + 1 ≡ length s
          rest-count = let l = inside in rw (is, length-drop) (omega arith)

          pub few : (length rest ≤ 13) × (n < 10 ^ (14 - length rest))
          few =
              let l = rest-count in
              let e = counted in
              let d : length (digit_run s) ≤ 14 - length rest = omega arith in
              (omega arith, rw spelled (lt_of_lt_of_le (numeral-lt (digit_run s) (run-digits s)) (pow-le-pow_right (lit< tt) d)))

          pub parts_are : parts_read n rest ≡ amount_read s
          unfolding parts_read amount_read is_amount meaning meaning_of decimals
          parts_are =
              let l = inside in
              let d : rest ≡ drop (length (whole s) + 1) s = is ∙ rw whole-count in
              let v : n * 10 ^ length (shortened rest) + numeral (shortened rest) ≡ numeral (whole s ++ shortened rest) =
              rw (spelled, whole_is) (sym (numeral-append (digit_run s) (shortened rest)))
              in let a : all_in Digit (whole s) ≡ true = ap (all_in Digit) whole_is ∙ run-digits s
              in rw (← d, v, le-leb (length s) 15 short, whole-count, lt-ltb k (length s) l, le-leb 1 k (omega arith), a)

-- ---- the line that an amount is put from

-- two parts put into a line of commas, with one comma left between them
pub commas : (x y : List ℕ) → length x + length y ≡ 14 → placed (placed (replicate {A = ℕ} 15 44) 0 x) (length x + 1) y ≡ x ++ 44 ∷ y
unfolding placed fits over
commas x y e =
    let n : ℕ = length x in
    let a : 0 + n ≤ 15 = omega arith in
    let r : 15 - n ≡ suc (14 - n) = omega arith in
    let first : drop (0 + n) (replicate {A = ℕ} 15 44) ≡ 44 ∷ replicate {A = ℕ} (14 - n) 44 = rw zero-add (drop-replicate n 15 44 ∙ ap (λ (k : ℕ). replicate {A = ℕ} k 44) r) in
    let z : List ℕ = replicate {A = ℕ} (14 - n) 44 in
    let p : List ℕ = x ++ 44 ∷ [] in
    let whole-line : x ++ 44 ∷ z ≡ p ++ z = sym (append_snoc x 44 z) in
    let lp : length p ≡ n + 1 = length-append x (44 ∷ []) in
    let b : n + 1 + length y ≤ length (p ++ z) = rw (length-append, lp, length-replicate) (omega arith) in
    let short : length (p ++ z) ≤ n + 1 + length y = rw (length-append, lp, length-replicate) (omega arith) in
    let rest : drop (n + 1 + length y) (p ++ z) ≡ [] = drop_of_length-le (p ++ z) short in
    rw (le-leb (0 + n) 15 a, first, whole-line, le-leb (n + 1 + length y) (length (p ++ z)) b, take_at p z (n + 1) lp, rest) (rw append-nil (append_snoc x 44 y))

-- fourteen digits with the comma in its place
pub spread_line : (n d : ℕ) (all line done : List ℕ) → d ≤ 13 → all ≡ placed (replicate {A = ℕ} 14 48) 0 (digits 14 n)
    → line ≡ placed (replicate {A = ℕ} 15 44) 0 (take (14 - d) all) → done ≡ placed line (14 - d + 1) (take (14 - (14 - d)) (drop (14 - d) all))
    → done ≡ spread (record { number = n; decimals = d })
unfolding spread
spread_line n d all line done h e f g =
    let l : length (digits 14 n) ≡ 14 = length_digits 14 n in
    let a : all ≡ digits 14 n = e ∙ placed-all (replicate {A = ℕ} 14 48) (digits 14 n) l in
    let r : take (14 - (14 - d)) (drop (14 - d) all) ≡ drop (14 - d) (digits 14 n) = rest_of (14 - d) 14 all (rw a l) ∙ rw a in
    let x : length (take (14 - d) (digits 14 n)) ≡ 14 - d = length-take-le (14 - d) (digits 14 n) (omega arith) in
    let s : length (take (14 - d) (digits 14 n)) + length (drop (14 - d) (digits 14 n)) ≡ 14 = rw (x, length-drop, l) (omega arith) in
    let front : List ℕ = take (14 - d) (digits 14 n) in
    let back : List ℕ = drop (14 - d) (digits 14 n) in
    g ∙ rw (f, r, a) (ap (λ (k : ℕ). placed (placed (replicate {A = ℕ} 15 44) 0 front) (k + 1) back) (sym x) ∙ commas front back s)

-- what is not in form has no text
pub text-none : (a : Amount) → in_form a ≡ false → amount_text a ≡ []
unfolding amount_text
text-none a e = rw e

-- the shortest text of an amount in form is what is left of that line behind the noughts before its last whole digit
module _ (a : Amount) (form : in_form a ≡ true) (line : List ℕ) (is : line ≡ spread a) where
  line-parts : line ≡ front a form ++ 44 ∷ rest a form
  unfolding spread front rest
  line-parts = is

  front_length : length (front a form) ≡ 14 - a.decimals
  unfolding front
  front_length = length-take-le (14 - a.decimals) (digits 14 a.number) (rw (length_digits 14 a.number) (omega arith))

  pub line-length : length line ≡ 15
  line-length =
      let d = few-decimals a form in
      let f = front_length in
      let r = rest-length a form in
      ap length line-parts ∙ length-append (front a form) (44 ∷ rest a form) ∙ omega arith

  noughts-of : noughts (take (13 - a.decimals) line) ≡ noughts (take (length (front a form) - 1) (front a form))
  noughts-of =
      let d = few-decimals a form in
      let f = front_length in
      let l : 13 - a.decimals ≡ length (front a form) - 1 = omega arith in
      ap (λ (s : List ℕ). noughts (take (13 - a.decimals) s)) line-parts
      ∙ ap (λ (k : ℕ). noughts (take k (front a form ++ 44 ∷ rest a form))) l
      ∙ ap noughts (take-append-le (length (front a form) - 1) (front a form) (44 ∷ rest a form) (omega arith))

  module _ (k : ℕ) (lead : k ≡ noughts (take (13 - a.decimals) line)) where
    lead-small : k ≤ length (front a form)
    lead-small =
        let h = noughts-length (take (length (front a form) - 1) (front a form)) in
        let l = length-take (length (front a form) - 1) (front a form) in
        let e = noughts-of in
        omega arith

    pub lead-within : k ≤ 15
    lead-within = let h = lead-small in let f = front_length in omega arith

    pub text-line : drop k line ≡ amount_text a
    text-line =
        let e : k ≡ noughts (take (length (front a form) - 1) (front a form)) = lead ∙ noughts-of in
        ap (drop k) line-parts ∙ drop-append-le k (front a form) (44 ∷ rest a form) lead-small
        ∙ ap (λ (s : List ℕ). s ++ 44 ∷ rest a form) (ap (λ (i : ℕ). drop i (front a form)) e ∙ sym (trimmed-drop (front a form)))
        ∙ ap (λ (s : List ℕ). trimmed (front a form) ++ 44 ∷ s) (sym (rest-stays a form))
        ∙ sym (text-parts a form)

-- fourteen digits are those of the largest amount and below
pub not-large : (n : ℕ) → n ≤ 99999999999999 → ltb n (10 ^ 14) ≡ true
not-large n h = lt-ltb n (10 ^ 14) (omega arith)

pub large : (n : ℕ) → 99999999999999 < n → ltb n (10 ^ 14) ≡ false
large n h = le-ltb n (10 ^ 14) (omega arith)
