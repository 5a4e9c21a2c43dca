-- What the layout takes to its end needs no other look: where a message is not too long, ends in LF and its last line is `-`, its header
-- passes, the layout takes every line and every value gets 0, there is nothing wrong in 1, 2 and 3 nor in 5, 6 and 7. Proved in
-- proofs/Passing of every format with the tests of proofs/Laws.
use Rattle.std.specs.Prelude.{ℕ, ◌≤◌, ◌≡◌, true, List, [], ◌∷◌, ◌++◌, length, drop}
use Rattle.text.specs.Bytes.{bytes}
use Rattle.lines.specs.Lines.{lines_of, ended, lines_pass}
use Rattle.blocks.specs.Blocks.{nest_pass}
use Rattle.walk.specs.Walk.{body_pass}
use Rattle.reader.specs.Header.{head_pass}
use Rattle.format.specs.Format.{Format}
use Rattle.format.specs.Reading.{body_of}

abbrev pub TakenPasses : Format → Type 0
TakenPasses F =
    (m : List ℕ) (early : List (List ℕ))
    → length m ≤ 4096 → ended m ≡ true → drop 4 (lines_of m) ≡ early ++ bytes "-" ∷ []
    → (head_pass F.slot_of F.header m).number ≡ 0 → (body_pass F.slot_of (body_of F m)).number ≡ 0
    → ((lines_pass m).number ≡ 0) × ((nest_pass m).number ≡ 0)
