-- `answer_judge::form::general_form` meets its contract. Assumes nothing.
use mathlib.Core.Path.{◌≡◌}
use mathlib.Core.Bool.{and-true}
use lib.ListN.{length}
use borrow.Author.Tests.{eq-eqb}
use Rattle.format.specs.Writable.{hold}
use Rattle.answer_values.specs.Writable.{tests}
use Rattle.answer_judge.proofs.Tests.{widths}
use borrow.Author.Rules.{rules}
use Rattle.answer_judge.proofs.form.general_form.Goals as goal

pub returns : goal.returns
unfolding tests hold
returns c =
    let long : length c.args.answer.reasons ≡ 10 = search rules in
    rw (eq-eqb _ _ long, widths.seme _, ← c.in_form-seme.ensures, ← c.prep_form-prep.ensures, and-true c.prep_form-prep.result)
