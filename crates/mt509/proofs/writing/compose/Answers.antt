-- `mt509::writing::compose` meets its contract: the values that are lent are those of the record. Assumes nothing.
use Rattle.writer.proofs.Laws.{put_whole}
use Rattle.writer.proofs.Writes.{values-lent}
use Rattle.answer_values.specs.Mt509.{mt509}
use Rattle.answer_values.specs.Values.{values, value_of}
use Rattle.mt509.proofs.writing.compose.Goals as goal

pub returns : goal.returns
unfolding value_of
returns c =
    let e = c.put_values.ensures in
    put_whole mt509 c.args.answer _ (values-lent (values c.args.answer) _ _ _ e.0 e.1 e.2) c.args.buf.now c.put.ensures c.requires
