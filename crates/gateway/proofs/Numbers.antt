-- The numbers that an answer of the MT515 can have: those of any message type (format's proofs/Numbers), and those of its own rules.
-- Assumes nothing.
use Prim.Native.Nat.{ℕ, ◌≤◌}
use native.Mathlib.Omega.{arith}
use mathlib.Core.Path.{refl}
use mathlib.Core.List.{List, [], ◌∷◌}
use lib.ListN.{drop}
use Rattle.lines.proofs.Rules.{chained, numbered, chained-few}
use Rattle.pieces.specs.Pieces.{piece_of}
use Rattle.pieces.specs.Calls.{turn_of}
use Rattle.pieces.specs.declared.Turn.{Turn}
use Rattle.format.specs.Reading as AnyType
use Rattle.format.proofs.Numbers.{few, Few, then-few, read-few, plain-few, write-few}
use Rattle.trade.specs.declared.Trade.{Trade}
use Rattle.kinds.specs.Kinds.{record_pass, kinds_pass}
use Rattle.values.specs.Mt515.{mt515}
use Rattle.values.proofs.Laid.{no-bars}
use Rattle.batch.specs.Batch.{blank_reading, says_of, next_of}
use Rattle.gateway.specs.Numbers.{Numbers}

-- ---- 13 to 17, and 20

kinds-few : (function : List ℕ) (t : Trade) → Few 17 (kinds_pass function t)
unfolding kinds_pass record_pass chained numbered
kinds-few function t = chained-few 17 ((_, 13) ∷ (_, 14) ∷ (_, 15) ∷ (_, 16) ∷ (_, 17) ∷ []) refl

rules-few : (t : Trade) → Few 20 (mt515.write_rules t)
unfolding record_pass chained numbered
rules-few t = then-few 20 _ _ (chained-few 20 ((_, 14) ∷ (_, 15) ∷ (_, 16) ∷ (_, 17) ∷ []) refl) (chained-few 20 ((_, 20) ∷ []) refl)

-- ---- and all answers

verdict-few : (m : List ℕ) → Few 17 (AnyType.verdict_of mt515 m)
verdict-few = read-few mt515 17 (few _ _ refl) (no-bars _) (λ value t. kinds-few (value 2) t)

next-few : (turn : Turn) (piece : List ℕ) → (says_of mt515 turn piece).number ≤ 21
unfolding says_of blank_reading AnyType.read_of AnyType.reading
next-few Turn.Message piece = let h = verdict-few piece in omega (arith, h)
next-few Turn.Done piece = few _ _ refl
next-few Turn.Past piece = few _ _ refl

pub numbers : Numbers
unfolding AnyType.read_of AnyType.reading next_of
numbers =
    record {
      read = verdict-few;
      plain = λ m room. plain-few mt515 19 (few _ _ refl) m room (let h = verdict-few m in omega (arith, h));
      write = write-few mt515 20 (few _ _ refl) rules-few;
      next = λ batch position. next-few (turn_of batch position) (piece_of (drop position batch));
    }
