-- `writer::put_message` meets its contract. Assumes nothing.
use Rattle.fill.specs.Filling.{lent}
use Rattle.writer.proofs.Header.{both}
use Rattle.writer.proofs.put_message.Goals as goal

pub returns : goal.returns
returns c =
    let a = c.args in
    both (lent a.slots.now a.optional.now a.text.now a.starts.now a.ends.now) _ _ _ c.put_header-at.ensures c.put_rows.ensures
