-- `reading::kept` meets its contract: the places that were taken, where the message is accepted. Assumes nothing.
use mathlib.Core.Path.{◌∙◌}
use Rattle.reader.specs.Take.{placeless}
use Rattle.format.proofs.Taken.{kept-taken, kept-none}
use Rattle.message_type.specs.Shape.{of}
use Rattle.reading.proofs.Answers.{verdict-is}
use Rattle.reading.proofs.kept.Goals as goal

pub returns-then-reading-eq0 : goal.returns-then-reading-eq0
returns-then-reading-eq0 g c =
    let F = of g.T.MessageType.shape in
    c.take-verdict.ensures ∙ kept-taken F _ _ (verdict-is F _ c.read_taken-reading.ensures) c.if-reading-eq0.true

pub returns : goal.returns
unfolding placeless
returns g c = let F = of g.T.MessageType.shape in kept-none F _ _ (verdict-is F _ c.read_taken-reading.ensures) c.if-reading-eq0.false
