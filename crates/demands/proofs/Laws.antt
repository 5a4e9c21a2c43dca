-- The MT515 keeps the laws of a message type: its record and the values of its slots tell each other, and its rules of reading and
-- of writing are kept together.
-- Assumes nothing.
use Prim.Native.Nat.{ℕ}
use mathlib.Core.Path.{◌≡◌, refl}
use mathlib.Core.Bool.{true}
use mathlib.Core.List.{List, [], ◌∷◌}
use native.Mathlib.Omega.{arith}
use lib.ListN.{length}
use Rattle.lines.proofs.Laws.{then-zero}
use Rattle.lines.proofs.Rules.{chained, numbered, then-of, chained-line, Never, chained-never}
use Rattle.format.specs.Reading.{rules_of}
use Rattle.format.proofs.Laws.{Held, Laws}
use Rattle.format.proofs.Judging.{rules-short}
use Rattle.trade.specs.Records.{trade_of}
use Rattle.trade.specs.declared.Trade.{Trade}
use Rattle.kinds.specs.Kinds.{record_pass, kinds_pass}
use Rattle.kinds.proofs.Laws.{own-function, kinds-passes}
use Rattle.values.specs.Values.{values, value_of}
use Rattle.values.specs.Writable.{in_form}
use Rattle.values.specs.Mt515.{mt515}
use Rattle.values.proofs.Laws.{record-back, values-held, values-back, rests, told-short}
use Rattle.message.proofs.Lengths.{message-most}

-- ---- every rule has line 0, and none is 19, which is the room's number

kinds-line : (function : List ℕ) (t : Trade) → (kinds_pass function t).line ≡ 0
unfolding kinds_pass record_pass chained
kinds-line function t = chained-line ((_, 13) ∷ (_, 14) ∷ (_, 15) ∷ (_, 16) ∷ (_, 17) ∷ [])

rules-not : (t : Trade) → Never 19 (mt515.write_rules t)
unfolding record_pass chained numbered
rules-not t = then-of (Never 19) _ _ (chained-never 19 refl ((_, 14) ∷ (_, 15) ∷ (_, 16) ∷ (_, 17) ∷ []) refl) (chained-never 19 refl ((_, 20) ∷ []) refl)

-- ---- those of reading and of writing

rules-back : (t : Trade) → in_form t ≡ true → (mt515.write_rules t).number ≡ 0 → (kinds_pass (value_of t 2) t).number ≡ 0
unfolding value_of values
rules-back t form z = rw (own-function t) (then-zero (record_pass t) _ z).0

rules-on : (value : ℕ → List ℕ) → Held mt515 value → (rules_of mt515 value).number ≡ 0 → (mt515.write_rules (trade_of value)).number ≡ 0
unfolding rules_of
rules-on value h z =
    let n = told-short (trade_of value) (values-back value h z).0 in
    rules-short (record_pass (trade_of value)) (length (value_of (trade_of value) 21)) (kinds-passes (value 2) (trade_of value) z).1 (omega arith)

-- ---- all of them

pub laws : Laws mt515
laws =
    record {
      record-back = record-back;
      values-held = values-held;
      values-back = values-back;
      rests = rests;
      rules-back = rules-back;
      rules-on = rules-on;
      rules-line = λ value t. kinds-line (value 2) t;
      never-19 = rules-not;
      most = message-most;
    }
