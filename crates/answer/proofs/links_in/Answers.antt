-- `answer::links_in` meets its contract: each reference is that of its slot. Assumes nothing.
use Rattle.answer.specs.Records.{answer_of}
use Rattle.answer.specs.Parts.{links_of}
use Rattle.answer.proofs.links_in.Goals as goal

pub returns : goal.returns
unfolding links_of answer_of
returns c =
    rw (
      c.text_at.ensures,
      c.text_at-2.ensures,
      c.text_at-3.ensures,
      c.text_at-4.ensures,
      c.text_at-5.ensures,
      c.text_at-6.ensures,
      c.text_at-7.ensures,
    )
