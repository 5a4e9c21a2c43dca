-- `pool_values::narrative_length` meets its contract. Assumes nothing.
use Rattle.fill.proofs.Runs.{measured}
use Rattle.pool_values.specs.Values.{values, value_of}
use Rattle.pool_values.proofs.narrative_length.Goals as goal

pub returns : goal.returns
unfolding value_of values
returns c = let e = c.put_narrative.ensures in measured _ _ e.0 e.2
