-- `outline::slot_of` meets its contract. Assumes nothing.
use native.Mathlib.Omega.{arith}
use Rattle.message_type.specs.Shape.{of}
use Rattle.outline.proofs.Slots.{own-slot, password-slot, line-slot, no-slot}
use Rattle.outline.proofs.slot_of.Goals as goal

pub returns-then-field-last : goal.returns-then-field-last
returns-then-field-last g c = own-slot (of g.T.MessageType.shape) g.T.MessageType.line _ (rw c.fields-last.ensures at c.if-field-last.true)

pub returns-in-1 : goal.returns-in-1
returns-in-1 g c = rw c.header-header.ensures (password-slot (of g.T.MessageType.shape) g.T.MessageType.line _ (rw c.fields-last.ensures at c.in-1.is))

pub returns-in-2 : goal.returns-in-2
returns-in-2 g c =
    rw (c.header-header.ensures, c.line.ensures) (line-slot (of g.T.MessageType.shape) g.T.MessageType.line _ (rw c.fields-last.ensures at c.in-2.is))

pub returns-in_default : goal.returns-in_default
returns-in_default g c = no-slot (of g.T.MessageType.shape) g.T.MessageType.line _ (omega (arith, c.fields-last.ensures, c.if-field-last.false))
