-- What callers cite: a record that passes keeps each rule; and 23G as the kind has it never refuses.
-- Assumes nothing.
use Prim.Native.Nat.{ℕ}
use mathlib.Core.Path.{◌≡◌, refl, sym, ap}
use mathlib.Core.Bool.{true, false, not}
use mathlib.Core.List.{List, [], ◌∷◌}
use lib.Dec.{eqb}
use borrow.Author.Tests.{not-false}
use Rattle.text.specs.Bytes.{same}
use Rattle.text.proofs.Laws.{same_refl}
use Rattle.calendar.specs.Dates.{earlier}
use Rattle.lines.proofs.Laws.{then-zero}
use Rattle.lines.proofs.Rules.{when-zero, goes_on, chained, numbered, chained-kept}
use Rattle.trade.specs.declared.Trade.{Trade}
use Rattle.kinds.specs.Kinds.{function_of, lacks_field, has_forbidden, record_pass, kinds_pass}

pub passes : (t : Trade) → (record_pass t).number ≡ 0
    → (lacks_field t.kind t ≡ false)
    × (has_forbidden t.kind t ≡ false)
    × (eqb t.par.0.number 0 ≡ false)
    × (earlier t.sett t.trad.date ≡ false)
unfolding record_pass chained numbered
passes t e =
    let k = chained-kept ((_, 14) ∷ (_, 15) ∷ (_, 16) ∷ (_, 17) ∷ []) refl e in
    (k.0, k.1.0, k.1.1.0, k.1.1.1.0)

pub kinds-passes : (function : List ℕ) (t : Trade) → (kinds_pass function t).number ≡ 0
    → (same (function_of t.kind) function ≡ true) × ((record_pass t).number ≡ 0)
unfolding kinds_pass
kinds-passes function t e = let p = then-zero _ _ e in (not-false _ (when-zero _ 13 refl p.0), p.1)

-- 23G as the kind has it leaves it to the rules of the record
pub own-function : (t : Trade) → kinds_pass (function_of t.kind) t ≡ record_pass t
unfolding kinds_pass
own-function t = sym (goes_on _ 13 (record_pass t) (ap not (same_refl (function_of t.kind))))
