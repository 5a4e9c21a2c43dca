-- What callers cite: a record gets 0 exactly when it is in form and keeps the rules by status.
-- Assumes nothing.
use mathlib.Core.Path.{◌≡◌}
use mathlib.Core.Bool.{true}
use Rattle.format.proofs.Round as AnyType
use Rattle.answer.specs.declared.Answer.{Answer}
use Rattle.answer_rules.specs.Rules.{record_pass}
use Rattle.answer_values.specs.Mt509.{mt509}
use Rattle.answer_values.specs.Writable.{in_form}
use Rattle.answer_judge.specs.Judging.{judge_of}

module _ (a : Answer) where
  pub judge-good : in_form a ≡ true → (record_pass a).number ≡ 0 → judge_of a ≡ 0
  judge-good form kept = AnyType.judge-good mt509 a form kept

  pub judge-zero : judge_of a ≡ 0 → (in_form a ≡ true) × ((record_pass a).number ≡ 0)
  judge-zero z = AnyType.judge-zero mt509 a z
