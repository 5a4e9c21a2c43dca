-- What callers cite: a record that passes keeps each rule, so that it has no field that its kind may not have (`absent`) and every field that
-- it must have (`needed`), and never CDRY and a reason both (`told-apart`); and 23G as the kind has it never refuses.
-- Assumes nothing.
use Prim.Native.Nat.{ℕ}
use mathlib.Core.Path.{◌≡◌, refl, sym, ap, ◌∙◌}
use mathlib.Core.Bool.{true, false, not}
use mathlib.Core.List.{List, [], ◌∷◌}
use mathlib.Core.Logic.{◌⊎◌, inl, inr}
use native.Mathlib.Omega.{arith}
use lib.Dec.{eqb}
use lib.ListN.{get_or}
use borrow.Author.Tests.{not-false}
use Rattle.text.specs.Bytes.{bytes, same}
use Rattle.text.proofs.Laws.{same_refl}
use Rattle.calendar.specs.Dates.{earlier}
use Rattle.lines.proofs.Laws.{then-zero}
use Rattle.lines.proofs.Rules.{when-zero, goes_on, chained, numbered, chained-kept}
use Rattle.pool_trade.specs.declared.Kind.{Kind}
use Rattle.pool_trade.specs.declared.PoolTrade.{PoolTrade}
use Rattle.pool_kinds.specs.Kinds.{present, function_of, needs, there, lacks_field, has_forbidden, record_pass, kinds_pass}
use Rattle.pool_kinds.proofs.Letters.{none_of}

pub passes : (t : PoolTrade) → (record_pass t).number ≡ 0
    → (lacks_field t ≡ false)
    × (has_forbidden t ≡ false)
    × (eqb t.par.0.number 0 ≡ false)
    × (earlier t.sett t.trad.date ≡ false)
unfolding record_pass chained numbered
passes t e =
    let k = chained-kept ((_, 14) ∷ (_, 15) ∷ (_, 16) ∷ (_, 17) ∷ []) refl e in
    (k.0, k.1.0, k.1.1.0, k.1.1.1.0)

pub kinds-passes : (function : List ℕ) (t : PoolTrade) → (kinds_pass function t).number ≡ 0
    → (same (function_of t.kind) function ≡ true) × ((record_pass t).number ≡ 0)
unfolding kinds_pass
kinds-passes function t e = let p = then-zero _ _ e in (not-false _ (when-zero _ 13 refl p.0), p.1)

-- 23G as the kind has it leaves it to the rules of the record
pub own-function : (t : PoolTrade) → kinds_pass (function_of t.kind) t ≡ record_pass t
unfolding kinds_pass
own-function t = sym (goes_on _ 13 (record_pass t) (ap not (same_refl (function_of t.kind))))

-- ---- the fields of a kind, by their places in `needs` and `there`

module _ (t : PoolTrade) (k : Kind) (e : t.kind ≡ k) where
  -- what the kind may not have
  pub absent : has_forbidden t ≡ false → (i : ℕ) → get_or (needs k) i 0 ≡ 45 → get_or (there t) i false ≡ false
  unfolding has_forbidden
  absent f i n = none_of 45 true (λ z. omega arith) (needs t.kind) (there t) f i (ap (λ (j : Kind). get_or (needs j) i 0) e ∙ n)

  -- what it must have
  pub needed : lacks_field t ≡ false → (i : ℕ) → get_or (needs k) i 0 ≡ 77 → get_or (there t) i true ≡ true
  unfolding lacks_field
  needed f i n = none_of 77 false (λ z. omega arith) (needs t.kind) (there t) f i (ap (λ (j : Kind). get_or (needs j) i 0) e ∙ n)

pub told-apart : (t : PoolTrade) → has_forbidden t ≡ false → (t.cdr ≡ false) ⊎ (present t.reason ≡ false)
unfolding needs there bytes
told-apart t f = go t.kind refl
  where
    go : (k : Kind) → t.kind ≡ k → (t.cdr ≡ false) ⊎ (present t.reason ≡ false)
    go Kind.Inst e = inr (absent t Kind.Inst e f 6 refl)
    go Kind.Canc e = inr (absent t Kind.Canc e f 6 refl)
    go Kind.Mdfc e = inr (absent t Kind.Mdfc e f 6 refl)
    go Kind.Tddk e = inl (absent t Kind.Tddk e f 5 refl)
    go Kind.Cdrq e = inr (absent t Kind.Cdrq e f 6 refl)
    go Kind.Cdrl e = inr (absent t Kind.Cdrl e f 6 refl)
