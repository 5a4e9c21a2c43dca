-- What calling again and again finds, whichever message type is read: by the position the answers are those of the pieces from
-- there on, and there is no other list of them.
-- Assumes nothing.
use Prim.Native.Nat.{ℕ, zero, suc, ◌+◌, ◌-◌, ◌≤◌, ◌<◌}
use mathlib.Core.Path.{◌≡◌, refl, sym, ap, ◌∙◌}
use mathlib.Core.Bool.{Bool, true, false, true≢false}
use mathlib.Core.List.{List, [], ◌∷◌, map}
use native.Mathlib.Omega.{arith}
use lib.Dec.{ltb}
use lib.ListN.{length, drop, length-drop, drop_of_length-le}
use lib.Seq.{drop-drop}
use borrow.Author.Tests.{ltb-true, ltb-false}
use Rattle.pieces.specs.declared.Turn.{Turn}
use Rattle.pieces.specs.declared.Turn.TheVariants.{Message, Done, Past}
use Rattle.pieces.specs.Pieces.{piece_of, pieces}
use Rattle.pieces.specs.Calls.{behind_of, Takes, Gives, ReadsPieces, NoOther}
use Rattle.pieces.proofs.Pieces.{pieces_step, no_pieces}
use Rattle.pieces.proofs.Laws.{piece-farther, turn-message, turn-done}

-- ---- from a position, the readings of the pieces from there on

module _ {A : Type 0} (read : List ℕ → A) (batch : List ℕ) (turn : ℕ → Turn) (reading : ℕ → A) (next : ℕ → ℕ) (takes : Takes read batch turn reading next) where
  abbrev From : ℕ → Type 0
  From at = Gives turn reading next at (map read (pieces (drop at batch)))

  gives-end : (at : ℕ) → at ≡ length batch → From at
  unfolding Gives
  gives-end at h =
      let l : length batch ≤ at = omega arith in
      rw (drop_of_length-le batch l, no_pieces) (takes.turns at ∙ turn-done batch at h)

  gives-piece : (at : ℕ) → at < length batch → From (at + length (piece_of (drop at batch))) → From at
  unfolding Gives behind_of
  gives-piece at h rest =
      let l = length-drop at batch in
      let s : 1 ≤ length (drop at batch) = omega arith in
      let m : turn at ≡ Message = takes.turns at ∙ turn-message batch at h in
      let n : next at ≡ at + length (piece_of (drop at batch)) = takes.goes_on at ∙ rw m in
      rw (pieces_step (drop at batch) s, drop-drop (length (piece_of (drop at batch))) at batch) (m, takes.reads at m, rw n rest)

  -- with so many bytes left at most: a piece has at least one
  gives-from : (most : ℕ) (at : ℕ) → at ≤ length batch → length batch - at ≤ most → From at
  gives-from zero at h g = gives-end at (omega arith)
  gives-from (suc most) at h g = on (ltb at (length batch)) refl (gives-from most (at + length (piece_of (drop at batch))))
    where
      on : (t : Bool) → ltb at (length batch) ≡ t
          → (let end : ℕ = at + length (piece_of (drop at batch)) in end ≤ length batch → length batch - end ≤ most → From end)
          → From at
      on false e ih = let l : length batch ≤ at = ltb-false _ _ e in gives-end at (omega arith)
      on true e ih =
          let l : at < length batch = ltb-true _ _ e in
          let w = piece-farther batch at (at + length (piece_of (drop at batch))) refl l in
          gives-piece at l (ih w.1 (omega arith))

pub reads-pieces : ReadsPieces
reads-pieces A read batch turn reading next takes = gives-from read batch turn reading next takes (length batch) 0 (omega arith) (omega arith)

-- ---- and there is no other list

is_message : Turn → Bool
is_message Message = true
is_message Done = false
is_message Past = false

apart : (turn : Turn) → turn ≡ Message → turn ≡ Done → ⊥
unfolding is_message
apart turn e d = true≢false (ap is_message (sym e ∙ d))

pub no_other : NoOther
unfolding Gives
no_other A turn reading next at [] [] g h = refl
no_other A turn reading next at [] (q ∷ qs) g h = absurd (apart _ h.0 g)
no_other A turn reading next at (r ∷ rs) [] g h = absurd (apart _ g.0 h)
no_other A turn reading next at (r ∷ rs) (q ∷ qs) g h = rw (sym g.1 ∙ h.1, no_other A turn reading next (next at) rs qs g.2 h.2)
