-- `answer_judge::form::links_form` meets its contract. Assumes nothing.
use mathlib.Core.Bool.{and-true}
use Rattle.format.specs.Writable.{hold}
use Rattle.answer_values.specs.Writable.{tests}
use Rattle.answer_judge.proofs.Tests.{widths}
use Rattle.answer_judge.proofs.form.links_form.Goals as goal

pub returns : goal.returns
unfolding tests hold
returns c =
    rw (
      widths.mast _,
      widths.prev _,
      widths.rela _,
      widths.list _,
      widths.bask _,
      widths.prog _,
      widths.comm _,
      ← c.in_form-mast.ensures,
      ← c.in_form_of-prev.ensures,
      ← c.in_form-rela.ensures,
      ← c.in_form_of-list.ensures,
      ← c.in_form_of-bask.ensures,
      ← c.in_form_of-prog.ensures,
      ← c.in_form_of-comm.ensures,
      and-true c.in_form_of-comm.result,
    )
