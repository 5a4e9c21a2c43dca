-- What a glance tells of a text needs no passes: where it takes so many bytes at the front of a text, from places that are all 0, these
-- bytes are the piece at its front, 1 to 12 find nothing wrong in them, and the places are those that the passes keep. Proved in
-- proofs/Glancing of every format with the tests of proofs/Laws.
use Rattle.std.specs.Prelude.{ℕ, ◌≡◌, List, take, replicate}
use Rattle.lines.specs.Verdicts.{pass}
use Rattle.pieces.specs.Pieces.{piece_of}
use Rattle.stretches.specs.Stretches.{slot_count}
use Rattle.sheets.specs.Trees.{table_of}
use Rattle.reader.specs.Take.{take_of}
use Rattle.glance.specs.Glance.{Glanced}
use Rattle.format.specs.Format.{Format}

-- a glance at the front of a text, from places that are all 0
abbrev pub GlancedIn : Format → List ℕ → List ℕ → List ℕ → ℕ → Type 0
GlancedIn F s starts ends n =
    Glanced (table_of F.tree) F.slot_of F.header s (replicate {A = ℕ} slot_count 0) (replicate {A = ℕ} slot_count 0) starts ends n

abbrev pub GlanceTakes : Format → Type 0
GlanceTakes F =
    (s starts ends : List ℕ) (n : ℕ) → GlancedIn F s starts ends n
    → (take_of (table_of F.tree) F.slot_of F.header (take n s) ≡ record { verdict = pass; starts = starts; ends = ends })
    × (piece_of s ≡ take n s)
