-- `remark::of` meets its contract: what is too long gives the blank remark. Assumes nothing.
use borrow.Author.Tests.{lt-leb}
use Rattle.text.specs.Texts.{padded_of}
use Rattle.remark.proofs.of.Goals as goal

pub returns-then-part-gt35 : goal.returns-then-part-gt35
unfolding padded_of
returns-then-part-gt35 c = rw (lt-leb _ _ c.if-part-gt35.true)
