-- `reading::at_a_look` meets its contract: the bytes that it lends are the type's. Assumes nothing.
use Rattle.glance.specs.Glance.{Says}
use Rattle.message_type.specs.Shape.{of}
use Rattle.reading.proofs.Lent.{lent-right}
use Rattle.reading.proofs.at_a_look.Goals as goal

pub returns : goal.returns
returns g c =
    let a = c.args in
    let n = c.glance.new in
    lent-right (of g.T.MessageType.shape) (λ table slots heads. Says table slots heads a.text.now a.starts.now a.ends.now n.starts n.ends c.glance.result)
    c.header.ensures c.rows.ensures c.slots.ensures c.glance.ensures
