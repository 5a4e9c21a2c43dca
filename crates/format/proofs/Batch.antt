-- What taking a batch piece by piece finds, of any message type: the readings of its pieces, and of written records these records, since the
-- pieces of their batch are their messages.
-- Assumes nothing.
use Prim.Native.Nat.{ℕ}
use mathlib.Core.Path.{◌≡◌, refl, ap, ◌∙◌}
use mathlib.Core.List.{List, [], ◌∷◌, map}
use Rattle.pieces.specs.declared.Turn.{Turn}
use Rattle.pieces.specs.Pieces.{pieces}
use Rattle.pieces.specs.Calls.{Takes, Gives}
use Rattle.pieces.proofs.Cutting as Pieces
use Rattle.format.specs.Format.{Format}
use Rattle.format.specs.Reading.{read_of}
use Rattle.format.specs.declared.Reading.{Reading}
use Rattle.format.specs.Writing.{message_of}
use Rattle.format.specs.Demands.{accepts, AllWritable, written, Demands}
use Rattle.format.specs.Batch.{ReadsWritten}

module _ (F : Format) (D : Demands F) (A : Type 0) (told : Reading F.Held → A) where
  all_back : (rs : List F.Held) → AllWritable F rs → map (λ m. told (read_of F m)) (map (message_of F) rs) ≡ map (λ r. told (accepts F r)) rs
  all_back [] h = refl
  all_back (r ∷ rs) h = rw (D.reads-back r h.0, all_back rs h.1)

  pub reads-written : ReadsWritten F A told
  reads-written rs h turn reading next t =
      let read : List ℕ → A = λ m. told (read_of F m) in
      let e : map read (pieces (written F rs)) ≡ map (λ r. told (accepts F r)) rs = ap (map read) (D.cuts-apart rs h) ∙ all_back rs h in
      rw e at (Pieces.reads-pieces A read (written F rs) turn reading next t)

  -- a function of a batch and a position, by the three parts of its answer
  module _ (turn : List ℕ → ℕ → Turn) (reading : List ℕ → ℕ → A) (next : List ℕ → ℕ → ℕ) where
    abbrev GivesIn : List ℕ → ℕ → List A → Type 0
    GivesIn batch = Gives (turn batch) (reading batch) (next batch)

    pub record Cut : Type 0 where
      pub reads-pieces : (batch : List ℕ) → GivesIn batch 0 (map (λ m. told (read_of F m)) (pieces batch))
      pub reads-written : (rs : List F.Held) → AllWritable F rs → GivesIn (written F rs) 0 (map (λ r. told (accepts F r)) rs)
      pub no_other : (batch : List ℕ) (position : ℕ) (rs qs : List A) → GivesIn batch position rs → GivesIn batch position qs → rs ≡ qs

    pub cut : ((batch : List ℕ) → Takes (λ m. told (read_of F m)) batch (turn batch) (reading batch) (next batch)) → Cut
    cut takes =
        record {
          reads-pieces = λ batch. Pieces.reads-pieces A (λ m. told (read_of F m)) batch (turn batch) (reading batch) (next batch) (takes batch);
          reads-written = λ rs h. reads-written rs h (turn (written F rs)) (reading (written F rs)) (next (written F rs)) (takes (written F rs));
          no_other = λ batch. Pieces.no_other A (turn batch) (reading batch) (next batch);
        }
