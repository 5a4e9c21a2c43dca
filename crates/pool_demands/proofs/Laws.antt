-- The pool profile keeps the laws of a message type: its record and the values of its slots tell each other, and its rules of reading and
-- of writing are kept together.
-- Assumes nothing.
use Prim.Native.Nat.{ℕ}
use mathlib.Core.Path.{◌≡◌, refl}
use mathlib.Core.Bool.{true}
use mathlib.Core.List.{List, [], ◌∷◌}
use lib.ListN.{length}
use Rattle.lines.proofs.Laws.{then-zero}
use Rattle.lines.proofs.Rules.{chained, numbered, then-of, chained-line, Never, chained-never}
use Rattle.format.specs.Reading.{rules_of}
use Rattle.format.proofs.Laws.{Held, Laws}
use Rattle.format.proofs.Judging.{rules-short}
use Rattle.pool_trade.specs.Records.{trade_of}
use Rattle.pool_trade.specs.declared.PoolTrade.{PoolTrade}
use Rattle.pool_kinds.specs.Kinds.{record_pass, kinds_pass}
use Rattle.pool_kinds.proofs.Laws.{own-function, kinds-passes}
use Rattle.pool_values.specs.Values.{values, value_of}
use Rattle.pool_values.specs.Writable.{in_form}
use Rattle.pool_values.specs.Pool.{pool}
use Rattle.pool_values.proofs.Laws.{record-back, values-held, values-back, rests, told-short}
use Rattle.pool_message.proofs.Lengths.{message-most}

-- ---- every rule has line 0, and none is 19, which is the room's number

kinds-line : (function : List ℕ) (t : PoolTrade) → (kinds_pass function t).line ≡ 0
unfolding kinds_pass record_pass chained
kinds-line function t = chained-line ((_, 13) ∷ (_, 14) ∷ (_, 15) ∷ (_, 16) ∷ (_, 17) ∷ [])

rules-not : (t : PoolTrade) → Never 19 (pool.write_rules t)
unfolding record_pass chained numbered
rules-not t = then-of (Never 19) _ _ (chained-never 19 refl ((_, 14) ∷ (_, 15) ∷ (_, 16) ∷ (_, 17) ∷ []) refl) (chained-never 19 refl ((_, 20) ∷ []) refl)

-- ---- those of reading and of writing

rules-back : (t : PoolTrade) → in_form t ≡ true → (pool.write_rules t).number ≡ 0 → (kinds_pass (value_of t 2) t).number ≡ 0
unfolding value_of values
rules-back t form z = rw (own-function t) (then-zero (record_pass t) _ z).0

-- 20 can not come up: the rules of reading let no narrative be so long
rules-on : (value : ℕ → List ℕ) → Held pool value → (rules_of pool value).number ≡ 0 → (pool.write_rules (trade_of value)).number ≡ 0
unfolding rules_of
rules-on value h z =
    let k = (kinds-passes (value 2) (trade_of value) z).1 in
    rules-short (record_pass (trade_of value)) (length (value_of (trade_of value) 19)) k (told-short (trade_of value) (values-back value h z).0 k)

-- ---- all of them

pub laws : Laws pool
laws =
    record {
      record-back = record-back;
      values-held = values-held;
      values-back = values-back;
      rests = rests;
      rules-back = rules-back;
      rules-on = rules-on;
      rules-line = λ value t. kinds-line (value 2) t;
      never-19 = rules-not;
      most = message-most;
    }
