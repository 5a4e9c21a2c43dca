-- The shortest text of an amount as a part of its text: it stands there, between the places that are told.
-- Assumes nothing.
use Prim.Native.Nat.{ℕ, ◌+◌, ◌-◌, ◌≤◌, ◌<◌}
use mathlib.Core.Path.{◌≡◌, refl, sym, ap, ◌∙◌}
use mathlib.Core.Bool.{Bool, true, false, cond}
use mathlib.Core.List.{List, [], ◌∷◌, ◌++◌, append_assoc}
use native.Mathlib.Omega.{arith}
use lib.Dec.{ltb}
use lib.ListN.{length, take, drop, replicate, length-append, length-take, length-drop}
use lib.Seq.{take_at, drop-append-le}
use borrow.Author.Tests.{ltb-true, lt-ltb, le-ltb}
use Rattle.text.specs.Bytes.{before}
use Rattle.text.proofs.Laws.{before-front, before-length}
use Rattle.amount.specs.Amounts.{whole, decimals, is_amount, trimmed, shortened, noughts, tidy, shortest_of}
use Rattle.amount.specs.declared.Trim.{Trim}
use Rattle.amount.proofs.Trims.{trimmed-drop, noughts-length, shortened-length, tail-is}
use Rattle.amount.proofs.Laws.{amount-split, amount-comma}

-- the noughts in front of the last byte are fewer than the bytes
few-noughts : (w : List ℕ) → noughts (take (length w - 1) w) ≤ length w
few-noughts w =
    let a = noughts-length (take (length w - 1) w) in
    let b = length-take (length w - 1) w in
    omega arith

pub none-needless : (w : List ℕ) → length w ≡ 0 → 0 ≡ noughts (take (length w - 1) w)
none-needless w e = let a = few-noughts w in omega arith

-- ---- a text with a comma, and one without

module _ (s : List ℕ) where
  pub no-comma : (k : ℕ) → k ≡ length (whole s) → k ≡ length s → record { from = 0; to = k } ≡ shortest_of s
  unfolding shortest_of
  no-comma k e h = rw (← e, h, le-ltb (length s) (length s) (omega arith))

  within : length (whole s) ≤ length s
  unfolding whole
  within = before-length 44 s

  pub behind : (k : ℕ) → k ≡ length (whole s) → (k ≡ length s → ⊥) → k + 1 ≤ length s
  behind k e h = let w = within in omega arith

  -- what is left of the rest lies within it
  pub few-left : (k : ℕ) → k + 1 ≤ length s → (rest : List ℕ) → rest ≡ drop (k + 1) s → (l : ℕ) → l ≡ length (shortened rest) → k + 1 + l ≤ length s
  few-left k h rest r l e =
      let a = shortened-length rest in
      let b = ap length r ∙ length-drop (k + 1) s in
      omega arith

  comma-is : length (whole s) < length s
      → shortest_of s ≡ record { from = noughts (take (length (whole s) - 1) (whole s)); to = length (whole s) + 1 + length (shortened (decimals s)) }
  unfolding shortest_of
  comma-is h = rw (lt-ltb (length (whole s)) (length s) h)

  decimals-length : length (decimals s) ≡ length s - (length (whole s) + 1)
  unfolding decimals
  decimals-length = length-drop (length (whole s) + 1) s

  pub parts_are : (k : ℕ) → k ≡ length (whole s) → (k ≡ length s → ⊥) → (rest : List ℕ) → rest ≡ drop (k + 1) s → (n l : ℕ)
      → n ≡ noughts (take (length (take k s) - 1) (take k s)) → l ≡ length (shortened rest) → record { from = n; to = k + 1 + l } ≡ shortest_of s
  unfolding whole decimals
  parts_are k e h rest r n l f g =
      let w = within in
      let front : take k s ≡ whole s = ap (λ (i : ℕ). take i s) e ∙ before-front 44 s in
      let d : rest ≡ decimals s = r ∙ ap (λ (i : ℕ). drop (i + 1) s) e in
      rw (f, g, front, d, e) (sym (comma-is (omega arith)))

  -- ---- the part lies within the text

  abbrev part : Bool → Trim
  part b =
      cond b
      (record { from = noughts (take (length (whole s) - 1) (whole s)); to = length (whole s) + 1 + length (shortened (decimals s)) })
      (record { from = 0; to = length s })

  pub lies_within : ((shortest_of s).from ≤ (shortest_of s).to) × ((shortest_of s).to ≤ length s)
  unfolding shortest_of
  lies_within = go (ltb (length (whole s)) (length s)) refl
    where
      go : (b : Bool) → ltb (length (whole s)) (length s) ≡ b → ((part b).from ≤ (part b).to) × ((part b).to ≤ length s)
      go true e =
          let w = ltb-true (length (whole s)) (length s) e in
          let n = few-noughts (whole s) in
          let l = shortened-length (decimals s) in
          let d = decimals-length in
          (omega arith, omega arith)
      go false e = (omega arith, omega arith)

-- ---- and is the shortest text of an amount

module _ (w f : List ℕ) where
  rest-of-whole : drop (noughts (take (length w - 1) w)) (w ++ 44 ∷ f) ≡ trimmed w ++ 44 ∷ f
  rest-of-whole = drop-append-le (noughts (take (length w - 1) w)) w (44 ∷ f) (few-noughts w) ∙ ap (λ (x : List ℕ). x ++ 44 ∷ f) (sym (trimmed-drop w))

  -- what the noughts at the end stand behind
  in_two : trimmed w ++ 44 ∷ f ≡ (trimmed w ++ 44 ∷ shortened f) ++ replicate {A = ℕ} (tail-is f).count 48
  in_two = ap (λ (x : List ℕ). trimmed w ++ 44 ∷ x) (tail-is f).is ∙ sym (append_assoc (trimmed w) (44 ∷ shortened f) (replicate {A = ℕ} (tail-is f).count 48))

  long : length (trimmed w ++ 44 ∷ shortened f) ≡ length w + 1 + length (shortened f) - noughts (take (length w - 1) w)
  long =
      let n = few-noughts w in
      let d : length (trimmed w) ≡ length w - noughts (take (length w - 1) w) = ap length (trimmed-drop w) ∙ length-drop (noughts (take (length w - 1) w)) w in
      let l = length-append (trimmed w) (44 ∷ shortened f) in
      omega arith

  pub parts-stand : take (length w + 1 + length (shortened f) - noughts (take (length w - 1) w)) (drop (noughts (take (length w - 1) w)) (w ++ 44 ∷ f))
      ≡ trimmed w ++ 44 ∷ shortened f
  parts-stand =
      let n : ℕ = length w + 1 + length (shortened f) - noughts (take (length w - 1) w) in
      ap (take n) (rest-of-whole ∙ in_two) ∙ take_at (trimmed w ++ 44 ∷ shortened f) (replicate {A = ℕ} (tail-is f).count 48) n long

-- what stands from one place of a text to another
abbrev pub shortest_in : List ℕ → List ℕ
shortest_in s = take ((shortest_of s).to - (shortest_of s).from) (drop (shortest_of s).from s)

pub shortest-tidy : (s : List ℕ) → is_amount s ≡ true → shortest_in s ≡ tidy s
unfolding tidy
shortest-tidy s e =
    let n : ℕ = noughts (take (length (whole s) - 1) (whole s)) in
    let k : ℕ = length (whole s) + 1 + length (shortened (decimals s)) in
    rw (comma-is s (amount-comma s e))
    (ap (λ (x : List ℕ). take (k - n) (drop n x)) (amount-split s e) ∙ parts-stand (whole s) (decimals s))

-- of nothing it is nothing
pub shortest-none : shortest_in [] ≡ []
unfolding shortest_of whole before
shortest-none = refl
