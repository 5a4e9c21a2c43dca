-- `writer::amounts::move_in` meets its contract. Assumes nothing.
use mathlib.Core.Path.{ap, ◌∙◌}
use lib.ListN.{set}
use Rattle.stretches.specs.Stretches.{stretch_of}
use Rattle.amount.specs.declared.Trim.{Trim}
use Rattle.writer.proofs.amounts.move_in.Goals as goal

pub returns : goal.returns
unfolding stretch_of
returns c =
    let args = c.args in
    let is = rw (c.at.ensures, c.at-2.ensures) at c.within-part.ensures in (
      c.keep.ensures ∙ ap (λ (t : Trim). set args.starts.now args.slot t.from) is,
      c.keep-2.ensures ∙ ap (λ (t : Trim). set args.ends.now args.slot t.to) is,
    )
