-- What callers cite: a record gets 0 exactly when it is in form and keeps the rules of its kind; 20 never comes up.
-- Assumes nothing.
use mathlib.Core.Path.{◌≡◌, refl, sym}
use mathlib.Core.Bool.{true}
use lib.ListN.{length}
use Rattle.lines.proofs.Laws.{then-zero}
use Rattle.format.proofs.Round as AnyType
use Rattle.format.proofs.Judging.{nothing-wrong}
use Rattle.pool_trade.specs.declared.PoolTrade.{PoolTrade}
use Rattle.pool_kinds.specs.Kinds.{record_pass}
use Rattle.pool_values.specs.Pool.{pool}
use Rattle.pool_values.specs.Values.{value_of}
use Rattle.pool_values.specs.Writable.{in_form}
use Rattle.pool_values.proofs.Laws.{told-short}
use Rattle.pool_judge.specs.Judging.{judge_of}

module _ (t : PoolTrade) where
  pub judge-good : in_form t ≡ true → (record_pass t).number ≡ 0 → judge_of t ≡ 0
  judge-good form kept = sym (nothing-wrong pool t form (record_pass t) 19 refl (record_pass t) refl kept (length (value_of t 19)) refl (told-short t form kept))

  pub judge-zero : judge_of t ≡ 0 → (in_form t ≡ true) × ((record_pass t).number ≡ 0)
  judge-zero z = let (form, kept) = AnyType.judge-zero pool t z in (form, (then-zero (record_pass t) _ kept).0)
