-- `answer_judge::form::reasons_form` meets its contract. The loop's invariant: what is to be answered is whether the reasons from here on are in
-- form. Assumes nothing.
use mathlib.Core.Path.{◌≡◌}
use mathlib.Core.Bool.{true}
use Rattle.format.specs.Writable.{hold}
use Rattle.answer_values.specs.Writable.{reason_tests}
use Rattle.answer_judge.proofs.Tests.{from}
use Rattle.answer_judge.proofs.form.reasons_form.Given as goal

abbrev pub invariant-loop-number : goal.invariant-loop-number
invariant-loop-number l = hold (reason_tests l.answer true 12 0 10) ≡ from l.answer l.before l.number
