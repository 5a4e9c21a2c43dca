-- `mt515::writing::compose` meets its contract: the values that are lent are those of the record. Assumes nothing.
use Rattle.writer.proofs.Laws.{put_whole}
use Rattle.writer.proofs.Writes.{values-lent}
use Rattle.values.specs.Mt515.{mt515}
use Rattle.values.specs.Values.{values, value_of}
use Rattle.mt515.proofs.writing.compose.Goals as goal

pub returns : goal.returns
unfolding value_of
returns c =
    let e = c.put_values.ensures in
    put_whole mt515 c.args.trade _ (values-lent (values c.args.trade) _ _ _ e.0 e.1 e.2) c.args.buf.now c.put.ensures c.requires
