-- `answer::gather` meets its contract: the parts are those of the record. Assumes nothing.
use Rattle.text.specs.Bytes.{bytes}
use Rattle.answer.specs.Records.{answer_of}
use Rattle.answer.specs.Parts.{links_of}
use Rattle.answer.proofs.gather.Goals as goal

pub returns : goal.returns
unfolding answer_of links_of bytes
returns c =
    rw (
      c.links_in.ensures,
      c.equals.ensures,
      c.stretch.ensures,
      c.of.ensures,
      c.stretch-2.ensures,
      c.text_at.ensures,
      c.text_at-2.ensures,
      c.text_at-3.ensures,
      c.moment_at.ensures,
      c.reasons_in.ensures,
    )
