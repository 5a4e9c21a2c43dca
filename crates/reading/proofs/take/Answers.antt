-- `reading::take` meets its contract: what a glance takes whole is what the passes take, and all else goes by the passes. Assumes nothing.
use Rattle.lines.specs.Verdicts.{pass, refused}
use Rattle.format.proofs.Taken.{glanced-body}
use Rattle.message_type.specs.Shape.{of}
use Rattle.reading.proofs.take.Goals as goal

pub returns-then-n-message : goal.returns-then-n-message
unfolding pass refused
returns-then-n-message g c =
    let none = c.requires in
    glanced-body (of g.T.MessageType.shape) g.met.T.MessageType.readable _ _ _ _ _ c.in-Some.is (rw (none.0, none.1) at c.at_a_look.ensures) c.if-n-message.true
