-- Two message types that are told apart by their headers: a message that one of them accepts gets 4 at line 3 from the other. Proved in
-- proofs/Profiles of two whose headers begin with the same two slots and whose third lines are fixed and not the same.
use Rattle.std.specs.Prelude.{ℕ, ◌≡◌, List}
use Rattle.lines.specs.Verdicts.{refused}
use Rattle.format.specs.Format.{Format}
use Rattle.format.specs.Reading.{verdict_of}
use Rattle.format.specs.Demands.{Accepted}

abbrev pub TurnsAway : Format → Format → Type 0
TurnsAway F G = (m : List ℕ) → Accepted F m → verdict_of G m ≡ refused 4 3
