-- The bytes of a number and of places in a row, both ways, over plain lists and numbers.
-- Assumes nothing.
use Prim.Native.Nat.{ℕ, zero, suc, ◌+◌, ◌*◌, ◌/◌, ◌%◌, ◌^◌, ◌≤◌, ◌<◌}
use mathlib.Core.Path.{◌≡◌, refl, sym, ap, ◌∙◌}
use mathlib.Core.Bool.{Bool, true}
use mathlib.Core.List.{List, [], ◌∷◌, ◌++◌, map, append_assoc, flatten}
use native.Mathlib.Nat.{zero-mul, suc-mul, add_comm, pow-zero, pow-suc, div-lt_iff_lt-mul}
use native.Mathlib.Omega.{arith}
use lib.Arith.{digits_lt}
use lib.Dec.{lit<}
use lib.ListN.{length, take, drop, length-append, length-drop, take-append-drop}
use lib.Seq.{take_at, drop_at, drop-drop, length-take-le}
use borrow.Author.Tests.{leb-true}
use Rattle.text.specs.Bytes.{parts}
use Rattle.text.proofs.Laws.{and_left, and_right, and_both}
use Rattle.format.specs.Writable.{hold}
use Rattle.packed.specs.Packed.{number_bytes}
use Rattle.unpacked.specs.Unpacked.{number_from}
use Rattle.unpacked.specs.Back.{byte_fits}

-- ---- a number and its bytes

pub number-back : (width n : ℕ) → n < 256 ^ width → number_from (number_bytes width n) ≡ n
unfolding number_bytes number_from
number-back zero n h = let z : n < 1 = rw pow-zero at h in omega arith
number-back (suc width) n h =
    let low : n / 256 < 256 ^ width = (div-lt_iff_lt-mul (lit< tt)).1 (rw pow-suc at h) in
    rw (number-back width (n / 256) low) (omega arith)

-- ---- bytes

pub bytes_take : (n : ℕ) (s : List ℕ) → hold (map byte_fits s) ≡ true → hold (map byte_fits (take n s)) ≡ true
unfolding hold
bytes_take zero s e = refl
bytes_take (suc n) [] e = refl
bytes_take (suc n) (b ∷ s) e = and_both {a = byte_fits b} (and_left (byte_fits b) (hold (map byte_fits s)) e) (bytes_take n s (and_right (byte_fits b) _ e))

pub bytes_drop : (n : ℕ) (s : List ℕ) → hold (map byte_fits s) ≡ true → hold (map byte_fits (drop n s)) ≡ true
unfolding hold
bytes_drop zero s e = e
bytes_drop (suc n) [] e = refl
bytes_drop (suc n) (b ∷ s) e = bytes_drop n s (and_right (byte_fits b) _ e)

pub byte_small : (b : ℕ) (s : List ℕ) → hold (map byte_fits (b ∷ s)) ≡ true → b ≤ 255
unfolding hold byte_fits
byte_small b s e = leb-true b 255 (and_left _ _ e)

-- the bytes of the number that bytes are
pub number-again : (s : List ℕ) → hold (map byte_fits s) ≡ true → number_bytes (length s) (number_from s) ≡ s
unfolding hold number_bytes number_from
number-again [] e = refl
number-again (b ∷ s) e =
    let h = byte_small b s e in
    let low : (b + 256 * number_from s) % 256 ≡ b = omega arith in
    let high : (b + 256 * number_from s) / 256 ≡ number_from s = omega arith in
    rw (low, high, number-again s (and_right (byte_fits b) _ e))

-- so many bytes are a number below that power of 256
pub number_small : (s : List ℕ) → hold (map byte_fits s) ≡ true → number_from s < 256 ^ length s
unfolding hold number_from
number_small [] e = lit< tt
number_small (b ∷ s) e =
    let h = byte_small b s e in
    let n = number_small s (and_right (byte_fits b) _ e) in
    let k : b + 256 * number_from s ≡ number_from s * 256 + b = omega arith in
    rw (k, pow-suc) (digits_lt n (omega arith))

-- ---- places in a row

-- the places of a row that are cut from it are those that were put
module _ {A : Type 0} (to : A → List ℕ) (from : List ℕ → A) (ok : A → Bool) (width : ℕ)
    (long : (x : A) → ok x ≡ true → length (to x) ≡ width) (back : (x : A) → ok x ≡ true → from (to x) ≡ x) where
  pub cut-row : (xs : List A) (rest : List ℕ) → hold (map ok xs) ≡ true → map from (parts width (length xs) (flatten (map to xs) ++ rest)) ≡ xs
  unfolding hold flatten parts
  cut-row [] rest e = refl
  cut-row (x ∷ xs) rest e =
      let o = and_left _ _ e in
      let tail : List ℕ = flatten (map to xs) ++ rest in
      let a : (to x ++ flatten (map to xs)) ++ rest ≡ to x ++ tail = append_assoc (to x) (flatten (map to xs)) rest in
      rw (a, take_at (to x) tail width (long x o), drop_at (to x) tail width (long x o), back x o) (ap (λ (l : List A). x ∷ l) (cut-row xs rest (and_right (ok x) _ e)))

  pub length-row : (xs : List A) → hold (map ok xs) ≡ true → length (flatten (map to xs)) ≡ length xs * width
  unfolding hold flatten
  length-row [] e = sym (zero-mul width)
  length-row (x ∷ xs) e =
      let l = length-row xs (and_right (ok x) _ e) in
      let m = long x (and_left _ _ e) in
      length-append (to x) (flatten (map to xs)) ∙ rw (m, l, suc-mul) (omega arith)

-- a text that is cut into places is the row of them, and what is left
pub row-parts : (width n : ℕ) (s : List ℕ) → flatten (parts width n s) ++ drop (n * width) s ≡ s
unfolding flatten parts
row-parts width zero s = rw zero-mul
row-parts width (suc n) s =
    let d : drop (suc n * width) s ≡ drop (n * width) (drop width s) = rw (suc-mul, drop-drop (n * width) width s, add_comm (n * width) width) in
    append_assoc (take width s) _ _ ∙ rw (d, row-parts width n (drop width s)) (take-append-drop width s)

-- places that are read and put again stay as they are
module _ {A : Type 0} (to : A → List ℕ) (from : List ℕ → A) (width : ℕ)
    (again : (p : List ℕ) → length p ≡ width → hold (map byte_fits p) ≡ true → to (from p) ≡ p) where
  pub parts_again : (n : ℕ) (s : List ℕ) → hold (map byte_fits s) ≡ true → n * width ≤ length s → map to (map from (parts width n s)) ≡ parts width n s
  unfolding parts
  parts_again zero s e h = refl
  parts_again (suc n) s e h =
      let w : suc n * width ≡ n * width + width = suc-mul n width in
      let l : length (take width s) ≡ width = length-take-le width s (omega arith) in
      let m = length-drop width s in
      rw (again (take width s) l (bytes_take width s e)) (ap (λ (k : List (List ℕ)). take width s ∷ k) (parts_again n (drop width s) (bytes_drop width s e) (omega arith)))
