-- What stands between the places of a field is the field, of MT515. Assumes nothing.
use Rattle.format.proofs.Outline.{stands-in}
use Rattle.values.specs.Mt515.{mt515}
use Rattle.values.proofs.Laid.{layout}
use Rattle.demands.proofs.Laws.{laws}
use Rattle.demands.proofs.Asked.{fields-are, is-outlined}
use Rattle.mt515.specs.Standing.{sender_line, Standing}

pub stands : Standing
stands = stands-in mt515 sender_line layout laws fields-are is-outlined
