-- `pool::writing::compose` meets its contract: the values that are lent are those of the record. Assumes nothing.
use Rattle.writer.proofs.Laws.{put_whole}
use Rattle.writer.proofs.Writes.{values-lent}
use Rattle.pool_values.specs.Pool.{pool}
use Rattle.pool_values.specs.Values.{values, value_of}
use Rattle.pool.proofs.writing.compose.Goals as goal

pub returns : goal.returns
unfolding value_of
returns c =
    let e = c.put_values.ensures in
    put_whole pool c.args.trade _ (values-lent (values c.args.trade) _ _ _ e.0 e.1 e.2) c.args.buf.now c.put.ensures c.requires
