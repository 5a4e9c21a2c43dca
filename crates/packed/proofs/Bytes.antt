-- The mathematics of the crate's functions: a date and time, and what each turn of a loop leaves.
-- Assumes nothing.
use Prim.Native.Nat.{ℕ, suc, ◌+◌, ◌*◌, ◌≤◌, ◌<◌}
use mathlib.Core.Path.{◌≡◌, sym, ap, ◌∙◌}
use mathlib.Core.Bool.{true}
use mathlib.Core.List.{List, ◌∷◌, ◌++◌, map, append_assoc, append-nil, flatten}
use native.Mathlib.Nat.{zero-mul, suc-mul, mul-le-mul_right}
use native.Mathlib.Numerals.{add-one}
use native.Mathlib.Omega.{arith}
use lib.Dec.{leb}
use Rattle.std.specs.Int.{to_le_bytes, w64}
use Rattle.std.proofs.Math.Nat.{div-div-eq-div-mul}
use lib.ListN.{length, take, drop, get_or, replicate, length-append, length-take, length-map, get_or-map}
use lib.Seq.{take-suc, take_at, take_all}
use borrow.Author.Tests.{le-leb}
use Rattle.text.specs.Copy.{over, fits, placed}
use Rattle.text.proofs.Laws.{placed-all, length-placed}
use Rattle.fill.proofs.Runs.{flat_append, Put, two}
use Rattle.calendar.specs.declared.Moment.{Moment}
use Rattle.packed.proofs.Laws.{at_most_in, at-most-out}
use Rattle.packed.specs.Packed.{at_most, moment_packed, number_bytes}

-- ---- a date and time

module _ (m : Moment) (time : ℕ) (e : time ≡ at_most 999999 m.time.0) where
  pub moment-in : m.date.0 * 1000000 + time ≤ 18446744073709551615 → m.date.0 * 1000000 + time ≡ moment_packed m
  unfolding moment_packed
  moment-in h = rw (← e) (sym (at_most_in 18446744073709551615 (m.date.0 * 1000000 + time) h))

  pub moment-out : 18446744073709551615 < m.date.0 * 1000000 + time → 18446744073709551615 ≡ moment_packed m
  unfolding moment_packed
  moment-out h = rw (← e) (sym (at-most-out 18446744073709551615 (m.date.0 * 1000000 + time) h))

-- ---- the bytes of a number

pub low-first : (n : ℕ) → to_le_bytes w64 n ≡ number_bytes 8 n
unfolding number_bytes
low-first n = simp div-div-eq-div-mul

-- ---- places in a row

-- `count` places, of so many bytes each, put one by one: the first i of them stand in front
module _ {A : Type 0} (f : A → List ℕ) (width count : ℕ) (l : List A) where
  abbrev pub Laid : List ℕ → ℕ → Type 0
  Laid row i = (i ≤ count) × (length row ≡ count * width) × (take (i * width) row ≡ flatten (take i (map f l)))

  pub laid_none : (row : List ℕ) → length row ≡ count * width → Laid row 0
  unfolding flatten
  laid_none row n = (omega arith, n, rw zero-mul)

  pub laid_more : (row : List ℕ) (i : ℕ) (d : A) (s now : List ℕ) → Laid row i → i < count → length l ≡ count → s ≡ f (get_or l i d) → length s ≡ width
      → now ≡ placed row (i * width) s → Laid now (i + 1)
  unfolding flatten placed fits over
  laid_more row i d s now e h n g m p =
      let at : ℕ = i * width in
      let ss : List (List ℕ) = map f l in
      let k : i < length ss = rw (length-map, n) h in
      let w : (i + 1) * width ≡ at + width = rw (add-one, suc-mul) in
      let room : (i + 1) * width ≤ count * width = mul-le-mul_right width (omega arith) in
      let o = e.1 in
      let t : leb (at + length s) (length row) ≡ true = le-leb (at + length s) (length row) (omega arith) in
      let j : now ≡ (take at row ++ s) ++ drop (at + length s) row = p ∙ rw t (sym (append_assoc (take at row) s _)) in
      let z : length (take at row ++ s) ≡ at + width = rw (length-append, length-take) (omega arith) in
      let q : flatten (take (suc i) ss) ≡ flatten (take i ss) ++ s =
      ap flatten (take-suc ss i (f d) k) ∙ flat_append (take i ss) _ ∙ ap (λ (x : List ℕ). flatten (take i ss) ++ x) (append-nil (get_or ss i (f d)) ∙ get_or-map f l i d ∙ sym g)
      in (omega arith, ap length p ∙ length-placed row at s ∙ o, rw (j, w, take_at (take at row ++ s) _ _ z, add-one, q, e.2))

  pub laid_done : (row : List ℕ) (i : ℕ) → Laid row i → count ≤ i → length l ≡ count → row ≡ flatten (map f l)
  laid_done row i e h n =
      let o = e.1 in
      let m = length-map l f in
      let w : count * width ≤ i * width = mul-le-mul_right width h in
      sym (take_all (i * width) row (omega arith)) ∙ e.2 ∙ ap flatten (take_all i (map f l) (omega arith))

-- ---- the place of a text

pub text-place : (v : ℕ) (s now : List ℕ) → length s ≡ 20 → now ≡ placed (v ∷ replicate {A = ℕ} 20 0) 1 s → now ≡ v ∷ s
unfolding placed fits over
text-place v s now l p =
    let g : leb (1 + length s) 21 ≡ true = le-leb (1 + length s) 21 (omega arith) in
    p ∙ rw (g, l) (ap (λ (k : List ℕ). v ∷ k) (append-nil s))

-- ---- the three rows in a buffer of 375 bytes

pub packed-is : (buf codes texts numbers : List ℕ) {r₁ r₂ r₃ : ℕ} {b₁ b₂ b₃ : List ℕ} → length buf ≡ 375 → length codes ≡ 4 → length texts ≡ 315 → length numbers ≡ 56
    → Put buf 0 codes r₁ b₁ → Put b₁ r₁ texts r₂ b₂ → Put b₂ r₂ numbers r₃ b₃ → b₃ ≡ codes ++ (texts ++ numbers)
packed-is buf codes texts numbers l c t n p q r =
    let m = length-append codes texts in
    let h = two buf 0 codes texts p q (omega arith) in
    let w = two buf 0 (codes ++ texts) numbers h r (omega arith) in
    let all : length ((codes ++ texts) ++ numbers) ≡ length buf = rw (length-append, length-append) (omega arith) in
    w.1 ∙ placed-all buf ((codes ++ texts) ++ numbers) all ∙ append_assoc codes texts numbers
