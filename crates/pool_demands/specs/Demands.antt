-- Request A1: demands 2 and 3 hold within each profile, and a message is never accepted by both. What the functions promise ties these to the
-- code: `reading::read` answers read_of, `writing::write` answers write_number and write_length and leaves written_over, all of format's
-- specs/ at `pool`. Proved in proofs/Demands.
use Rattle.std.specs.Prelude.{ℕ, ◌≡◌, true, List, length}
use Rattle.lines.specs.Verdicts.{refused}
use Rattle.format.specs.Reading.{verdict_of}
use Rattle.format.specs.Writing.{message_of, writable}
use Rattle.format.specs.Demands as Every
use Rattle.values.specs.Mt515.{mt515}
use Rattle.pool_trade.specs.declared.Kind.{Kind}
use Rattle.pool_trade.specs.declared.PoolTrade.{PoolTrade}
use Rattle.pool_values.specs.Pool.{pool}

-- ---- 2 and 3, in the README's order and words, as format's specs/Demands says them of any message type

abbrev pub Holds : Type 0
Holds = Every.Demands pool

-- ---- the longest written message has 752 bytes: none has more, which is one of those, and a CANC and an MDFC have as many

abbrev pub AsLong : Kind → Type 0
AsLong kind = (t : PoolTrade) × (t.kind ≡ kind) × (writable pool t ≡ true) × (length (message_of pool t) ≡ 752)

-- ---- never both: a message that one profile accepts gets 4 at line 3 from the other

abbrev pub OnlyPool : Type 0
OnlyPool = (m : List ℕ) → Every.Accepted pool m → verdict_of mt515 m ≡ refused 4 3

abbrev pub OnlyOwn : Type 0
OnlyOwn = (m : List ℕ) → Every.Accepted mt515 m → verdict_of pool m ≡ refused 4 3

pub record Demands : Type 0 where
  pub holds : Holds
  pub as-long-canc : AsLong Kind.Canc
  pub as-long-mdfc : AsLong Kind.Mdfc
  pub only-pool : OnlyPool
  pub only-own : OnlyOwn
