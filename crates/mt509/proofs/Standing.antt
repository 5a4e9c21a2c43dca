-- What stands between the places of a field is the field, of MT509. Assumes nothing.
use Rattle.format.proofs.Outline.{stands-in}
use Rattle.answer_values.specs.Mt509.{mt509}
use Rattle.answer_values.proofs.Laid.{layout}
use Rattle.answer_demands.proofs.Laws.{laws}
use Rattle.answer_demands.proofs.Asked.{fields-are, is-outlined}
use Rattle.mt509.specs.Standing.{receiver_line, Standing}

pub stands : Standing
stands = stands-in mt509 receiver_line layout laws fields-are is-outlined
