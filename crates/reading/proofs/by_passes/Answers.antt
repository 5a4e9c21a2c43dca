-- `reading::by_passes` meets its contract: the bytes that it lends are the type's. Assumes nothing.
use mathlib.Core.Path.{◌≡◌}
use Rattle.reader.specs.Take.{take_of}
use Rattle.message_type.specs.Shape.{of}
use Rattle.reading.proofs.Lent.{lent-right}
use Rattle.reading.proofs.by_passes.Goals as goal

pub returns : goal.returns
returns g c =
    lent-right (of g.T.MessageType.shape) (λ table slots heads. c.take.result ≡ take_of table slots heads c.args.message.now)
    c.header.ensures c.rows.ensures c.slots.ensures c.take.ensures
