-- What calling again and again finds: the function takes the pieces one by one, so that it is what format's proofs/Batch says.
-- Assumes nothing.
use Prim.Native.Nat.{ℕ}
use mathlib.Core.Path.{refl}
use mathlib.Core.List.{List}
use Rattle.pieces.specs.Calls.{Takes}
use Rattle.format.specs.Format.{Format}
use Rattle.format.specs.Reading.{read_of}
use Rattle.format.specs.declared.Reading.{Reading}
use Rattle.format.specs.Demands.{Demands}
use Rattle.format.proofs.Batch.{cut}
use Rattle.batch.specs.Batch.{says_of, next_of, Cutting}

takes : (F : Format) (batch : List ℕ)
    → Takes (read_of F) batch (λ at. (next_of F batch at).turn) (λ at. (next_of F batch at).reading) (λ at. (next_of F batch at).position)
unfolding next_of says_of
takes F batch = record { turns = λ at. refl; reads = λ at e. rw e; goes_on = λ at. refl }

pub cutting : (F : Format) → Demands F → Cutting F
cutting F D =
    let c = cut F D (Reading F.Held) (λ r. r)
    (λ batch at. (next_of F batch at).turn) (λ batch at. (next_of F batch at).reading) (λ batch at. (next_of F batch at).position) (takes F) in
    record { reads-pieces = c.reads-pieces; reads-written = c.reads-written; no_other = c.no_other }
