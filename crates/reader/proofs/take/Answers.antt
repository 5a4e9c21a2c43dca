-- `reader::take` meets its contract: the first pass that finds something wrong decides, and else the walk. Assumes nothing.
use mathlib.Core.Path.{◌∙◌}
use Rattle.reader.proofs.Passes.{refused-1, refused-2, refused-3, walked-is}
use Rattle.reader.proofs.take.Goals as goal

pub returns-then-lines-ne0 : goal.returns-then-lines-ne0
returns-then-lines-ne0 c = c.refuse.ensures ∙ refused-1 _ _ _ _ _ c.check-lines.ensures c.if-lines-ne0.true

pub returns-then-first-ne0 : goal.returns-then-first-ne0
returns-then-first-ne0 c = c.refuse-then-first-ne0.ensures ∙ refused-2 _ _ _ _ _ c.check-lines.ensures c.if-lines-ne0.false _ c.read_header-head.ensures c.if-first-ne0.true

pub returns-then-blocks-ne0 : goal.returns-then-blocks-ne0
returns-then-blocks-ne0 c =
    c.refuse-then-blocks-ne0.ensures
    ∙ refused-3 _ _ _ _ _ c.check-lines.ensures c.if-lines-ne0.false _ c.read_header-head.ensures c.if-first-ne0.false _ c.nesting-blocks.ensures c.if-blocks-ne0.true

pub returns : goal.returns
returns c =
    c.walk.ensures
    ∙ walked-is _ _ _ _ _ c.check-lines.ensures c.if-lines-ne0.false _ c.read_header-head.ensures c.if-first-ne0.false _ c.nesting-blocks.ensures c.if-blocks-ne0.false
