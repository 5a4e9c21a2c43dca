-- The mathematics of the crate's functions: what each turn of a loop leaves.
-- Assumes nothing.
use Prim.Native.Nat.{ℕ, ◌+◌, ◌-◌, ◌*◌, ◌≤◌, ◌<◌}
use mathlib.Core.Path.{◌≡◌, sym, ap, ◌∙◌}
use mathlib.Core.List.{List, [], ◌∷◌, map}
use native.Mathlib.Nat.{add-zero}
use native.Mathlib.Numerals.{add-one}
use native.Mathlib.Omega.{arith}
use Rattle.std.specs.Int.{from_le_bytes, w64}
use lib.ListN.{length, take, drop, get_or, set, replicate, length-take, length-drop, length-map, length-set, get_or-map}
use lib.Seq.{take-suc, take-suc-set, take_all, drop-drop, get_or-drop}
use Rattle.text.specs.Bytes.{parts}
use Rattle.text.specs.Copy.{placed}
use Rattle.text.proofs.Laws.{rest_of, placed-all, parts_from, length-parts}
use Rattle.unpacked.specs.Unpacked.{number_from}

-- ---- a number from its bytes, the least first

pub low-first : (s : List ℕ) → length s ≡ 8 → from_le_bytes w64 s ≡ number_from s
unfolding number_from
low-first [] l = let z : ⊥ = omega arith in absurd z
low-first (a ∷ []) l = let z : ⊥ = omega arith in absurd z
low-first (a ∷ b ∷ []) l = let z : ⊥ = omega arith in absurd z
low-first (a ∷ b ∷ c ∷ []) l = let z : ⊥ = omega arith in absurd z
low-first (a ∷ b ∷ c ∷ d ∷ []) l = let z : ⊥ = omega arith in absurd z
low-first (a ∷ b ∷ c ∷ d ∷ e ∷ []) l = let z : ⊥ = omega arith in absurd z
low-first (a ∷ b ∷ c ∷ d ∷ e ∷ f ∷ []) l = let z : ⊥ = omega arith in absurd z
low-first (a ∷ b ∷ c ∷ d ∷ e ∷ f ∷ g ∷ []) l = let z : ⊥ = omega arith in absurd z
low-first (a ∷ b ∷ c ∷ d ∷ e ∷ f ∷ g ∷ h ∷ []) l = omega arith
low-first (a ∷ b ∷ c ∷ d ∷ e ∷ f ∷ g ∷ h ∷ i ∷ s) l = let z : ⊥ = omega arith in absurd z

-- ---- a row of places read one by one

-- `n` places of so many bytes from a byte on, each made into what it holds: the first i of them are right
module _ {A : Type 0} (f : List ℕ → A) (width n from : ℕ) (s : List ℕ) where
  abbrev pub Read : List A → ℕ → Type 0
  Read l i = (i ≤ n) × (length l ≡ n) × (take i l ≡ take i (map f (parts width n (drop from s))))

  length-places : length (map f (parts width n (drop from s))) ≡ n
  length-places = length-map (parts width n (drop from s)) f ∙ length-parts width n (drop from s)

  -- a part that lies within is as long as it is asked to be
  pub part-long : (i : ℕ) → from + i * width + width ≤ length s → length (take (from + i * width + width - (from + i * width)) (drop (from + i * width) s)) ≡ width
  part-long i h = rw (length-take, length-drop) (omega arith)

  place_at : (i : ℕ) → i < n → f (take (from + i * width + width - (from + i * width)) (drop (from + i * width) s)) ≡ get_or (map f (parts width n (drop from s))) i (f [])
  place_at i h =
      let l : List (List ℕ) = parts width n (drop from s) in
      let w : from + i * width + width - (from + i * width) ≡ width = omega arith in
      let e : get_or l i [] ≡ take width (drop (i * width) (drop from s)) =
      sym (get_or-drop i l 0 [] ∙ ap (λ (k : ℕ). get_or l k []) (add-zero i)) ∙ ap (λ (k : List (List ℕ)). get_or k 0 []) (parts_from width n i (drop from s) h)
      in rw w (ap (λ (k : List ℕ). f (take width k)) (sym (drop-drop (i * width) from s)) ∙ ap f (sym e) ∙ sym (get_or-map f l i []))

  pub read_more : (l : List A) (i : ℕ) (a : A) → Read l i → i < n → a ≡ f (take (from + i * width + width - (from + i * width)) (drop (from + i * width) s)) → Read (set l i a) (i + 1)
  read_more l i a r h e =
      let g : i < length (map f (parts width n (drop from s))) = rw length-places h in
      let k : i < length l = rw r.1 h in
      (omega arith, length-set l i a ∙ r.1, rw (add-one, take-suc-set l i a k, take-suc (map f (parts width n (drop from s))) i (f []) g, r.2, ← place_at i h, e))

  pub read_done : (l : List A) (i : ℕ) → Read l i → n ≤ i → l ≡ map f (parts width n (drop from s))
  read_done l i r h =
      let p = r.1 in
      let q = length-places in
      sym (take_all i l (omega arith)) ∙ r.2 ∙ take_all i (map f (parts width n (drop from s))) (omega arith)

-- ---- a text from its place

pub text-taken : (place now : List ℕ) (n : ℕ) → length place ≡ 21 → n ≡ length place → now ≡ placed (replicate {A = ℕ} 20 0) 0 (take (n - 1) (drop 1 place)) → now ≡ drop 1 place
text-taken place now n l e p =
    let d : take (n - 1) (drop 1 place) ≡ drop 1 place = rest_of 1 n place (sym e) in
    p ∙ rw d (placed-all (replicate {A = ℕ} 20 0) (drop 1 place) (length-drop 1 place ∙ ap (λ (k : ℕ). k - 1) l))
