-- The numbers that an answer of the MT509's entries can have: those of any message type (format's proofs/Numbers), and those of its own rules.
-- Assumes nothing.
use Prim.Native.Nat.{ℕ, ◌≤◌}
use native.Mathlib.Omega.{arith}
use mathlib.Core.Path.{refl}
use mathlib.Core.List.{List, [], ◌∷◌}
use lib.ListN.{drop}
use Rattle.lines.proofs.Rules.{chained, numbered, chained-few}
use Rattle.pieces.specs.Pieces.{piece_of}
use Rattle.pieces.specs.Calls.{turn_of}
use Rattle.pieces.specs.declared.Turn.{Turn}
use Rattle.format.specs.Reading as AnyType
use Rattle.format.proofs.Numbers.{few, Few, read-few, plain-few}
use Rattle.answer.specs.declared.Answer.{Answer}
use Rattle.answer_rules.specs.Rules.{record_pass, answer_pass}
use Rattle.answer_values.specs.Mt509.{mt509}
use Rattle.answer_values.proofs.Laid.{bars-22}
use Rattle.batch.specs.Batch.{blank_reading, says_of, next_of}
use Rattle.gateway.specs.AnswerNumbers.{AnswerNumbers}

-- 13 to 15
rules-few : (function : List ℕ) (a : Answer) → Few 22 (answer_pass function a)
unfolding answer_pass record_pass chained numbered
rules-few function a = chained-few 22 ((_, 13) ∷ (_, 14) ∷ (_, 15) ∷ []) refl

-- and 22, which is the layout's
verdict-few : (m : List ℕ) → Few 22 (AnyType.verdict_of mt509 m)
verdict-few = read-few mt509 22 (few _ _ refl) bars-22 (λ value a. rules-few (value 2) a)

next-few : (turn : Turn) (piece : List ℕ) → (says_of mt509 turn piece).number ≤ 22
unfolding says_of blank_reading AnyType.read_of AnyType.reading
next-few Turn.Message piece = let h = verdict-few piece in omega (arith, h)
next-few Turn.Done piece = few _ _ refl
next-few Turn.Past piece = few _ _ refl

pub numbers : AnswerNumbers
unfolding AnyType.read_of AnyType.reading next_of
numbers =
    record {
      read = verdict-few;
      plain = λ m room. plain-few mt509 22 (few _ _ refl) m room (verdict-few m);
      next = λ batch position. next-few (turn_of batch position) (piece_of (drop position batch));
    }
