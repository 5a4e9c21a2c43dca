-- Document 01, "Batch", of any message type: of records that were written one behind the other, what takes the pieces of the batch one by
-- one (pieces' specs/Calls) gives just these records and then says "done". `told` is how a read's answer is put together.
use Rattle.std.specs.Prelude.{ℕ, List, map}
use Rattle.pieces.specs.Calls.{Gives, Takes}
use Rattle.pieces.specs.declared.Turn.{Turn}
use Rattle.format.specs.Format.{Format}
use Rattle.format.specs.Reading.{read_of}
use Rattle.format.specs.declared.Reading.{Reading}
use Rattle.format.specs.Demands.{accepts, AllWritable, written}

abbrev pub ReadsWritten : (F : Format) (A : Type 0) → (Reading F.Held → A) → Type 0
ReadsWritten F A told =
    (rs : List F.Held) → AllWritable F rs
    → (turn : ℕ → Turn) (reading : ℕ → A) (next : ℕ → ℕ) → Takes (λ m. told (read_of F m)) (written F rs) turn reading next
    → Gives turn reading next 0 (map (λ r. told (accepts F r)) rs)
