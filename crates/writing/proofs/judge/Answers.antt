-- `writing::judge` meets its contract. Assumes nothing.
use mathlib.Core.Path.{sym, ◌∙◌}
use Rattle.format.proofs.Judging.{out-of-form}
use Rattle.message_type.specs.Shape.{of}
use Rattle.writing.proofs.Answers.{by-rules}
use Rattle.writing.proofs.judge.Goals as goal

pub returns-then-not-in_form : goal.returns-then-not-in_form
returns-then-not-in_form g c = out-of-form (of g.T.MessageType.shape) _ (sym c.in_form.ensures ∙ c.if-not-in_form.true)

pub returns : goal.returns
returns g c = by-rules (of g.T.MessageType.shape) _ (sym c.in_form.ensures ∙ c.if-not-in_form.false) _ c.write_rules.ensures
