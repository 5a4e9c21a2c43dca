-- What a place and a field of an MT509 are to each other, to the message and to its record: what field's proofs/Finding says of any message
-- type.
-- Assumes nothing.
use Rattle.field.specs.Finding as AnyType
use Rattle.field.proofs.Finding as Proved
use Rattle.answer_values.specs.Mt509.{mt509}
use Rattle.answer_values.proofs.Laid.{layout}
use Rattle.answer_demands.proofs.Laws.{laws}
use Rattle.answer_demands.proofs.Demands.{holds}
use Rattle.answer_demands.proofs.Asked.{fields-are}
use Rattle.mt509.specs.Finding.{Finding}

of_any : AnyType.Finding mt509
of_any = Proved.finding mt509 layout laws fields-are holds

pub finding : Finding
finding = record { is-part = of_any.is-part; any = of_any.any }
