-- What callers cite: the answer of a program at a position of a batch, whichever message type is read, by what it does there: it is past
-- the end, at the end, or reads the piece at the front of what is left.
-- Assumes nothing.
use Prim.Native.Nat.{ℕ, ◌+◌, ◌-◌, ◌≤◌, ◌<◌}
use mathlib.Core.Path.{◌≡◌, refl, sym, ap, ◌∙◌}
use mathlib.Core.List.{List}
use lib.ListN.{length, take, drop}
use Rattle.text.proofs.Laws.{rest_of}
use Rattle.pieces.specs.declared.Turn.{Turn}
use Rattle.pieces.specs.declared.Turn.TheVariants.{Message, Done, Past}
use Rattle.pieces.specs.Pieces.{piece_of}
use Rattle.pieces.specs.Calls.{turn_of, behind_of}
use Rattle.pieces.proofs.Laws.{piece-within, turn-message, turn-done, turn-past}

module _ (batch : List ℕ) (position : ℕ) where
  -- the piece at the position, and that of all that is left, which is the same
  abbrev pub piece_at : List ℕ
  piece_at = piece_of (drop position batch)

  abbrev pub piece_left : List ℕ
  piece_left = piece_of (take (length batch - position) (drop position batch))

  piece-left : piece_left ≡ piece_at
  piece-left = ap piece_of (rest_of position (length batch) batch refl)

  -- it lies within the batch
  pub front-within : (n : ℕ) → n ≡ length piece_left → position ≤ length batch → position + n ≤ length batch
  front-within n is h = rw (is ∙ ap length piece-left) (piece-within batch position (position + length piece_at) refl h).1

  -- ---- an answer by its three parts: what stands there, what is said of it, and where to go on. What is said goes by what stands there
  -- and by the piece

  module _ {A : Type 0} (says : Turn → List ℕ → A) where
    pub record Answered (turn : Turn) (said : A) (next : ℕ) : Type 0 where
      pub is-turn : turn ≡ turn_of batch position
      pub is_said : said ≡ says (turn_of batch position) piece_at
      pub is-next : next ≡ behind_of (turn_of batch position) position piece_at

    pub at_piece : position < length batch → Answered Message (says Message piece_at) (position + length piece_at)
    unfolding behind_of
    at_piece h = let t = turn-message batch position h in record { is-turn = sym t; is_said = rw t; is-next = rw t }

    pub at_front : position < length batch → {said : A} {n : ℕ} → said ≡ says Message piece_left → n ≡ length piece_left → Answered Message said (position + n)
    at_front h e f = rw (e, f, piece-left) (at_piece h)

    pub at-end : position ≡ length batch → {said : A} → said ≡ says Done piece_at → Answered Done said position
    unfolding behind_of
    at-end h e = let t = turn-done batch position h in record { is-turn = sym t; is_said = e ∙ rw t; is-next = rw t }

    pub past_end : length batch < position → {said : A} → said ≡ says Past piece_at → Answered Past said position
    unfolding behind_of
    past_end h e = let t = turn-past batch position h in record { is-turn = sym t; is_said = e ∙ rw t; is-next = rw t }
