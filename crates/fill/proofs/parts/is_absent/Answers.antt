-- `fill::parts::is_absent` meets its contract. Assumes nothing.
use mathlib.Core.Path.{sym, ◌∙◌}
use mathlib.Core.Bool.{and-true, and-false}
use borrow.Author.Tests.{eq-eqb, ne_eqb}
use Rattle.fill.specs.Filling.{is_any}
use Rattle.fill.proofs.Rows.{found}
use Rattle.fill.proofs.parts.is_absent.Goals as goal

pub returns-then-length-ne0 : goal.returns-then-length-ne0
returns-then-length-ne0 c = let a = c.args in rw (ne_eqb _ 0 c.if-length-ne0.true) (sym (and-false (is_any a.optional.now a.slot)))

pub returns : goal.returns
returns c = rw (c.find.ensures, eq-eqb _ 0 c.if-length-ne0.false) (found _ _ ∙ sym (and-true (is_any c.args.optional.now c.args.slot)))
