-- The answers of the crate's function, put together: they are what pieces' proofs/Answers says of any reading; and what callers cite.
-- Assumes nothing.
use Prim.Native.Nat.{ℕ, ◌+◌, ◌≤◌, ◌<◌}
use mathlib.Core.Path.{◌≡◌, sym, ap, ◌∙◌}
use mathlib.Core.List.{List}
use lib.ListN.{length, drop}
use Rattle.pieces.specs.declared.Turn.{Turn}
use Rattle.pieces.specs.Pieces.{piece_of}
use Rattle.pieces.proofs.Answers.{Answered, at_piece}
use Rattle.pieces.proofs.Laws.{piece-farther}
use Rattle.format.specs.Format.{Format}
use Rattle.format.specs.declared.Reading.{Reading}
use Rattle.batch.specs.Batch.{says_of, next_of}
use Rattle.batch.specs.declared.Found.{Found}

pub whole : (F : Format) (batch : List ℕ) (position : ℕ) {turn : Turn} {reading : Reading F.Held} {next : ℕ}
    → Answered batch position (says_of F) turn reading next
    → record { turn = turn; reading = reading; position = next } ≡ next_of F batch position
unfolding next_of
whole F batch position a = rw (a.is-turn, a.is_said, a.is-next)

-- the next position of a batch is farther on, and within it
pub farther : (F : Format) (batch : List ℕ) (position : ℕ) (a : Found F.Held) → a ≡ next_of F batch position → position < length batch
    → (position < a.position) × (a.position ≤ length batch)
farther F batch position a e h =
    let p : a.position ≡ position + length (piece_of (drop position batch)) =
    ap (λ (x : Found F.Held). x.position) (e ∙ sym (whole F batch position (at_piece batch position (says_of F) h))) in
    piece-farther batch position a.position p h
