-- Request A3, "Plain form": demands 2 and 3 of the MT509. What the functions promise ties these to the code: `reading::read` answers read_of,
-- `writing::write` answers write_number and write_length and leaves written_over, all of format's specs/ at `mt509`. Proved in
-- proofs/Demands.
use Rattle.std.specs.Prelude.{ℕ, ◌≡◌, true, length}
use Rattle.format.specs.Writing.{message_of, writable}
use Rattle.format.specs.Demands as Every
use Rattle.answer.specs.declared.Answer.{Answer}
use Rattle.answer_values.specs.Mt509.{mt509}

-- ---- 2 and 3, in the README's order and words, as format's specs/Demands says them of any message type

abbrev pub Holds : Type 0
Holds = Every.Demands mt509

-- ---- the longest written message has 1,476 bytes: none has more, which is one of those, and `IPRC//REJT` and `CPRC//REJT`, which are 1 and
-- 15 in the list of statuses, have as many

abbrev pub AsLong : ℕ → Type 0
AsLong status = (a : Answer) × (a.status.0 ≡ status) × (writable mt509 a ≡ true) × (length (message_of mt509 a) ≡ 1476)

pub record Demands : Type 0 where
  pub holds : Holds
  pub as-long-iprc : AsLong 1
  pub as-long-cprc : AsLong 15
