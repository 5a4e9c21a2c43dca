-- What callers cite: a piece is a stretch of its batch, and what stands at a position within the batch, at its end and past it.
-- Assumes nothing.
use Prim.Native.Nat.{ℕ, ◌+◌, ◌-◌, ◌≤◌, ◌<◌}
use mathlib.Core.Path.{◌≡◌, ap, ◌∙◌}
use mathlib.Core.List.{List, [], ◌∷◌}
use native.Mathlib.Omega.{arith}
use lib.ListN.{length, take, drop, length-append, length-drop}
use lib.Seq.{take-append_seam}
use borrow.Author.Tests.{lt-ltb, le-ltb, eq-eqb, ne_eqb}
use Rattle.pieces.specs.declared.Turn.TheVariants.{Message, Done, Past}
use Rattle.pieces.specs.Pieces.{piece_of}
use Rattle.pieces.specs.Calls.{turn_of}
use Rattle.pieces.proofs.Pieces.{piece-some, piece-split}

-- ---- a piece is a stretch of its batch

some : (s : List ℕ) → 0 < length s → 1 ≤ length (piece_of s)
some [] h = let z : ⊥ = omega arith in absurd z
some (b ∷ s) h = piece-some b s

module _ (batch : List ℕ) (position end : ℕ) (is : end ≡ position + length (piece_of (drop position batch))) where
  pub piece-within : position ≤ length batch → (position ≤ end) × (end ≤ length batch)
  piece-within h =
      let s = ap length (piece-split (drop position batch)) in
      let a = length-append (piece_of (drop position batch)) (drop (length (piece_of (drop position batch))) (drop position batch)) in
      let l = length-drop position batch in
      (omega arith, omega arith)

  pub stretch-is : take (end - position) (drop position batch) ≡ piece_of (drop position batch)
  stretch-is =
      let n : end - position ≡ length (piece_of (drop position batch)) = omega (arith, is) in
      rw n (ap (take (length (piece_of (drop position batch)))) (piece-split (drop position batch)) ∙ take-append_seam (piece_of (drop position batch)) _)

  -- it has at least one byte
  pub piece-farther : position < length batch → (position < end) × (end ≤ length batch)
  piece-farther h =
      let l = length-drop position batch in
      let s = some (drop position batch) (omega arith) in
      let w = piece-within (omega arith) in
      (omega arith, omega arith)

-- ---- what stands at a position

module _ (batch : List ℕ) (position : ℕ) where
  pub turn-message : position < length batch → turn_of batch position ≡ Message
  unfolding turn_of
  turn-message h = rw (lt-ltb position (length batch) h)

  pub turn-done : position ≡ length batch → turn_of batch position ≡ Done
  unfolding turn_of
  turn-done h =
      let l : length batch ≤ position = omega arith in
      rw (le-ltb position (length batch) l, eq-eqb position (length batch) h)

  pub turn-past : length batch < position → turn_of batch position ≡ Past
  unfolding turn_of
  turn-past h =
      let l : length batch ≤ position = omega arith in
      let n : position ≡ length batch → ⊥ = λ q. omega arith in
      rw (le-ltb position (length batch) l, ne_eqb position (length batch) n)
