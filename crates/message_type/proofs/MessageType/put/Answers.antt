-- `MessageType::put` meets its contract: the bytes that it lends are the type's. Assumes nothing.
use Rattle.fill.specs.Filling.{lent}
use Rattle.writer.proofs.Messages.{parts-lent}
use Rattle.message_type.specs.Shape.{of}
use Rattle.message_type.proofs.MessageType.put.Goals as goal

pub returns : goal.returns
returns g c =
    let F = of g.Self.MessageType.shape in
    rw (parts-lent F (lent _ _ _ _ _) _ c.header.ensures c.rows.ensures c.slots.ensures c.optional.ensures) at c.put_message.ensures
