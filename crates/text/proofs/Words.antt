-- Bytes that are compared several at a time, as one number: the number tells the bytes, and what is told of some of a key's bytes
-- is told of the whole key.
-- Assumes nothing.
use Prim.Native.Nat.{ℕ, zero, suc, ◌+◌, ◌-◌, ◌*◌, ◌≤◌}
use mathlib.Core.Path.{◌≡◌, refl, sym, ap, ◌∙◌}
use mathlib.Core.Bool.{Bool, true, false}
use mathlib.Core.List.{List, [], ◌∷◌, ◌++◌}
use native.Mathlib.Numerals.{add-one}
use native.Mathlib.Omega.{arith}
use mir.Syntax.{w8}
use mir.Val.{Fits}
use lib.Dec.{eqb}
use lib.ListN.{length, take, drop, get_or, length-drop, take-append-drop}
use lib.Seq.{drop-cons, drop-drop, drop-append-le, take-append-le, take_all}
use borrow.Author.Tests.{eq-eqb, eqb-true, eqb-false}
use Rattle.text.specs.Bytes.{begins, little}
use Rattle.text.proofs.Laws.{begins-is, begins-append}

-- every element is a byte, as it is known of a part that is lent
abbrev Bytes : List ℕ → Type 0
Bytes s = (i : ℕ) → Fits w8 (get_or s i 0)

-- ---- the number that the code computes

module _ (s : List ℕ) (at : ℕ) where
  four-of : at + 4 ≤ length s → drop at s ≡ get_or s at 0 ∷ get_or s (at + 1) 0 ∷ get_or s (at + 2) 0 ∷ get_or s (at + 3) 0 ∷ drop (at + 4) s
  four-of h =
      rw (drop-cons s at 0 (omega arith), ← add-one at, drop-cons s (at + 1) 0 (omega arith), ← add-one (at + 1))
      (let e1 : at + 1 + 1 ≡ at + 2 = omega arith in
      rw (e1, drop-cons s (at + 2) 0 (omega arith), ← add-one (at + 2))
      (let e2 : at + 2 + 1 ≡ at + 3 = omega arith in
      rw (e2, drop-cons s (at + 3) 0 (omega arith), ← add-one (at + 3))
      (let e3 : at + 3 + 1 ≡ at + 4 = omega arith in rw e3)))

  pub half_is : at + 4 ≤ length s → get_or s at 0 + 256 * get_or s (at + 1) 0 + 65536 * get_or s (at + 2) 0 + 16777216 * get_or s (at + 3) 0 ≡ little (take 4 (drop at s))
  unfolding little
  half_is h = rw (four-of h) (omega arith)

  pub word_is : at + 8 ≤ length s → little (take 4 (drop at s)) + 4294967296 * little (take 4 (drop (at + 4) s)) ≡ little (take 8 (drop at s))
  unfolding little
  word_is h = let g : at + 4 ≤ length s = omega arith in rw (four-of g) (omega arith)

-- ---- the number tells the bytes

pub little-tells : (w i : ℕ) (s t : List ℕ) → Bytes s → Bytes t → i + w ≤ length s → i + w ≤ length t
    → little (take w (drop i s)) ≡ little (take w (drop i t)) → take w (drop i s) ≡ take w (drop i t)
unfolding little
little-tells zero i s t p q h g e = refl
little-tells (suc w) i s t p q h g e =
    let hs : drop i s ≡ get_or s i 0 ∷ drop (suc i) s = drop-cons s i 0 (omega arith) in
    let ht : drop i t ≡ get_or t i 0 ∷ drop (suc i) t = drop-cons t i 0 (omega arith) in
    let f : get_or s i 0 + 256 * little (take w (drop (suc i) s)) ≡ get_or t i 0 + 256 * little (take w (drop (suc i) t)) = rw (hs, ht) at e in
    let ps = p i in
    let qt = q i in
    let first : get_or s i 0 ≡ get_or t i 0 = omega arith in
    let rest : little (take w (drop (suc i) s)) ≡ little (take w (drop (suc i) t)) = omega arith in
    rw (hs, ht, first, little-tells w (suc i) s t p q (omega arith) (omega arith) rest)

-- ---- a part against a key, some bytes at a time

-- what stands in front of both changes nothing
begins-skip : (front key part : List ℕ) → begins (front ++ key) (front ++ part) ≡ begins key part
unfolding begins
begins-skip [] key part = refl
begins-skip (b ∷ front) key part = rw (eq-eqb b b refl) (begins-skip front key part)

module _ (key part : List ℕ) (long : length key ≤ length part) (ks : Bytes key) (ps : Bytes part) where
  -- a part that begins with a key has the same bytes at every place of the key
  begins-there : (i w : ℕ) → i + w ≤ length key → begins key part ≡ true → take w (drop i part) ≡ take w (drop i key)
  begins-there i w h e =
      let is = begins-is key part e in
      let l : w ≤ length (drop i key) = rw length-drop (omega arith) in
      rw (is, drop-append-le i key (drop (length key) part) (omega arith), take-append-le w (drop i key) (drop (length key) part) l)

  -- a and b: the numbers of w bytes at a place of the part and of the key
  module _ (i w : ℕ) (h : i + w ≤ length key) {a b : ℕ} (ea : a ≡ little (take w (drop i part))) (eb : b ≡ little (take w (drop i key))) where
    pub words-stop : (a ≡ b → ⊥) → false ≡ begins key part
    words-stop n = go (begins key part) refl
      where
        go : (t : Bool) → begins key part ≡ t → false ≡ t
        go true e = absurd (n (ea ∙ ap little (begins-there i w h e) ∙ sym eb))
        go false e = refl

    there : a ≡ b → take w (drop i part) ≡ take w (drop i key)
    there e = little-tells w i part key ps ks (omega arith) h (sym ea ∙ e ∙ eb)

    pub words_more : begins (drop i key) (drop i part) ≡ begins key part → a ≡ b → begins (drop (i + w) key) (drop (i + w) part) ≡ begins key part
    words_more inv e =
        let front : List ℕ = take w (drop i key) in
        let k : drop i key ≡ front ++ drop (i + w) key = sym (take-append-drop w (drop i key)) ∙ rw (drop-drop w i key) in
        let p : drop i part ≡ front ++ drop (i + w) part = sym (take-append-drop w (drop i part)) ∙ rw (drop-drop w i part, there e) in
        sym (sym inv ∙ ap (λ (l : List ℕ). begins l (drop i part)) k ∙ ap (begins (front ++ drop (i + w) key)) p ∙ begins-skip front _ _)

    -- the last bytes of the key, of which those before j are known
    pub words_last : (j : ℕ) → i + w ≡ length key → i ≤ j → j ≤ length key → begins (drop j key) (drop j part) ≡ begins key part → eqb a b ≡ begins key part
    words_last j n hi hj inv = go (eqb a b) refl
      where
        go : (t : Bool) → eqb a b ≡ t → t ≡ begins key part
        go true e =
            let rest : List ℕ = drop w (drop i part) in
            let k : take w (drop i key) ≡ drop i key = take_all w (drop i key) (rw length-drop (omega arith)) in
            let p : drop i part ≡ drop i key ++ rest = sym (take-append-drop w (drop i part)) ∙ rw (there (eqb-true a b e), k) in
            let d : i + (j - i) ≡ j = omega arith in
            let m : j - i ≤ length (drop i key) = rw length-drop (omega arith) in
            let kj : drop (j - i) (drop i key) ≡ drop j key = drop-drop (j - i) i key ∙ rw d in
            let pj : drop j part ≡ drop (j - i) (drop i part) = sym (drop-drop (j - i) i part ∙ rw d) in
            let q : drop j part ≡ drop j key ++ rest = pj ∙ ap (drop (j - i)) p ∙ drop-append-le (j - i) (drop i key) rest m ∙ rw kj in
            sym (sym inv ∙ ap (begins (drop j key)) q ∙ begins-append (drop j key) rest)
        go false e = words-stop (eqb-false a b e)
