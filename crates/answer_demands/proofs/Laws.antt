-- The MT509 keeps the laws of a message type: its record and the values of its slots tell each other, and its rules of reading and of writing
-- are kept together.
-- Assumes nothing.
use Prim.Native.Nat.{ℕ}
use mathlib.Core.Path.{◌≡◌, refl}
use mathlib.Core.Bool.{true}
use mathlib.Core.List.{List, [], ◌∷◌}
use Rattle.lines.proofs.Rules.{chained, numbered, chained-line, Never, chained-never}
use Rattle.format.specs.Reading.{rules_of}
use Rattle.format.proofs.Laws.{Held, Laws}
use Rattle.answer.specs.Records.{answer_of}
use Rattle.answer.specs.declared.Answer.{Answer}
use Rattle.answer_rules.specs.Rules.{record_pass, answer_pass}
use Rattle.answer_rules.proofs.Laws.{own-function, answer-passes}
use Rattle.answer_values.specs.Values.{values, value_of}
use Rattle.answer_values.specs.Writable.{in_form}
use Rattle.answer_values.specs.Mt509.{mt509}
use Rattle.answer_values.proofs.Laws.{record-back, values-held, values-back, rests}
use Rattle.answer_demands.proofs.Lengths.{message-most}

-- ---- every rule has line 0, and none is 19, which is the room's number

rules-line : (function : List ℕ) (a : Answer) → (answer_pass function a).line ≡ 0
unfolding answer_pass record_pass chained
rules-line function a = chained-line ((_, 13) ∷ (_, 14) ∷ (_, 15) ∷ [])

rules-not : (a : Answer) → Never 19 (record_pass a)
unfolding record_pass chained numbered
rules-not a = chained-never 19 refl ((_, 14) ∷ (_, 15) ∷ []) refl

-- ---- those of reading and of writing

rules-back : (a : Answer) → in_form a ≡ true → (record_pass a).number ≡ 0 → (answer_pass (value_of a 2) a).number ≡ 0
unfolding value_of values
rules-back a form z = rw (own-function a z) z

rules-on : (value : ℕ → List ℕ) → Held mt509 value → (rules_of mt509 value).number ≡ 0 → (record_pass (answer_of value)).number ≡ 0
unfolding rules_of
rules-on value h z = (answer-passes (value 2) (answer_of value) z).1

-- ---- all of them

pub laws : Laws mt509
laws =
    record {
      record-back = record-back;
      values-held = values-held;
      values-back = values-back;
      rests = rests;
      rules-back = rules-back;
      rules-on = rules-on;
      rules-line = λ value a. rules-line (value 2) a;
      never-19 = rules-not;
      most = message-most;
    }
