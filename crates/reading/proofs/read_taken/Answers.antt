-- `reading::read_taken` meets its contract: what is wrong up to the values decides, and else the rules. Assumes nothing.
use mathlib.Core.Path.{◌∙◌}
use Rattle.format.proofs.Chain.{refused, judged-is}
use Rattle.message_type.specs.Shape.{of}
use Rattle.reading.specs.Reading.{refusal, judged}
use Rattle.reading.proofs.read_taken.Goals as goal

pub returns-then-verdict-ne0 : goal.returns-then-verdict-ne0
unfolding refusal
returns-then-verdict-ne0 g c =
    c.refuse.ensures ∙ refused (of g.T.MessageType.shape) g.met.T.MessageType.readable _ _ c.requires c.if-verdict-ne0.true

pub returns : goal.returns
unfolding judged
returns g c = c.judge.ensures ∙ judged-is (of g.T.MessageType.shape) g.met.T.MessageType.readable _ _ c.requires c.if-verdict-ne0.false
