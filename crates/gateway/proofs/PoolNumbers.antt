-- The numbers that an answer of the pool entries can have: those of any message type (format's proofs/Numbers), and those of its own rules.
-- Assumes nothing.
use Prim.Native.Nat.{ℕ, ◌≤◌}
use native.Mathlib.Omega.{arith}
use mathlib.Core.Path.{refl}
use mathlib.Core.List.{List, [], ◌∷◌}
use lib.ListN.{drop}
use Rattle.lines.proofs.Rules.{chained, numbered, chained-few}
use Rattle.pieces.specs.Pieces.{piece_of}
use Rattle.pieces.specs.Calls.{turn_of}
use Rattle.pieces.specs.declared.Turn.{Turn}
use Rattle.format.specs.Reading as AnyType
use Rattle.format.proofs.Numbers.{few, Few, read-few, plain-few}
use Rattle.pool_trade.specs.declared.PoolTrade.{PoolTrade}
use Rattle.pool_kinds.specs.Kinds.{record_pass, kinds_pass}
use Rattle.pool_values.specs.Pool.{pool}
use Rattle.pool_values.proofs.Laid.{no-bars}
use Rattle.batch.specs.Batch.{blank_reading, says_of, next_of}
use Rattle.gateway.specs.PoolNumbers.{PoolNumbers}

-- 13 to 17
kinds-few : (function : List ℕ) (t : PoolTrade) → Few 17 (kinds_pass function t)
unfolding kinds_pass record_pass chained numbered
kinds-few function t = chained-few 17 ((_, 13) ∷ (_, 14) ∷ (_, 15) ∷ (_, 16) ∷ (_, 17) ∷ []) refl

verdict-few : (m : List ℕ) → Few 17 (AnyType.verdict_of pool m)
verdict-few = read-few pool 17 (few _ _ refl) (no-bars _) (λ value t. kinds-few (value 2) t)

next-few : (turn : Turn) (piece : List ℕ) → (says_of pool turn piece).number ≤ 21
unfolding says_of blank_reading AnyType.read_of AnyType.reading
next-few Turn.Message piece = let h = verdict-few piece in omega (arith, h)
next-few Turn.Done piece = few _ _ refl
next-few Turn.Past piece = few _ _ refl

pub numbers : PoolNumbers
unfolding AnyType.read_of AnyType.reading next_of
numbers =
    record {
      read = verdict-few;
      plain = λ m room. plain-few pool 19 (few _ _ refl) m room (let h = verdict-few m in omega (arith, h));
      next = λ batch position. next-few (turn_of batch position) (piece_of (drop position batch));
    }
