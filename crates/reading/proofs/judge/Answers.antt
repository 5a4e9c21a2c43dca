-- `reading::judge` meets its contract. Assumes nothing.
use mathlib.Core.Path.{◌∙◌}
use Rattle.message_type.specs.Shape.{of}
use Rattle.reading.proofs.Answers.{judged-refused, judged-accepted}
use Rattle.reading.proofs.judge.Goals as goal

pub returns-then-rules-ne0 : goal.returns-then-rules-ne0
returns-then-rules-ne0 g c =
    c.refuse.ensures ∙ judged-refused (of g.T.MessageType.shape) _ _ c.gather-held.ensures _ c.read_rules-rules.ensures c.if-rules-ne0.true

pub returns : goal.returns
returns g c = judged-accepted (of g.T.MessageType.shape) _ _ c.gather-held.ensures _ c.read_rules-rules.ensures c.if-rules-ne0.false
