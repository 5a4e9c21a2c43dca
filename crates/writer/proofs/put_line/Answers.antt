-- `writer::put_line` meets its contract. Assumes nothing.
use Rattle.text.specs.Bytes.{bytes}
use Rattle.writer.proofs.Header.{line-put}
use Rattle.writer.proofs.put_line.Goals as goal

pub returns : goal.returns
unfolding bytes
returns c = line-put _ _ _ _ _ _ _ c.fixed_text-fixed.ensures c.stretch-value.ensures c.put-from.ensures c.put-behind.ensures c.put.ensures
