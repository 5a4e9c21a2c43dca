-- What callers cite: a record gets 0 exactly when it is in form and keeps the rules of its kind; 20 never comes up.
-- Assumes nothing.
use mathlib.Core.Path.{◌≡◌, refl, sym}
use mathlib.Core.Bool.{true}
use native.Mathlib.Omega.{arith}
use lib.ListN.{length}
use Rattle.lines.proofs.Laws.{then-zero}
use Rattle.format.proofs.Round as AnyType
use Rattle.format.proofs.Judging.{nothing-wrong}
use Rattle.trade.specs.declared.Trade.{Trade}
use Rattle.kinds.specs.Kinds.{record_pass}
use Rattle.values.specs.Mt515.{mt515}
use Rattle.values.specs.Values.{value_of}
use Rattle.values.specs.Writable.{in_form}
use Rattle.values.proofs.Laws.{told-short}
use Rattle.judge.specs.Judging.{judge_of}

module _ (t : Trade) where
  pub judge-good : in_form t ≡ true → (record_pass t).number ≡ 0 → judge_of t ≡ 0
  judge-good form kept = sym (nothing-wrong mt515 t form (record_pass t) 21 refl (record_pass t) refl kept (length (value_of t 21)) refl (let h = told-short t form in omega arith))

  pub judge-zero : judge_of t ≡ 0 → (in_form t ≡ true) × ((record_pass t).number ≡ 0)
  judge-zero z = let (form, kept) = AnyType.judge-zero mt515 t z in (form, (then-zero (record_pass t) _ kept).0)
