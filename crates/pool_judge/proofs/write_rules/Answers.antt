-- `pool_judge::write_rules` meets its contract. Assumes nothing.
use Rattle.lines.specs.Verdicts.{pass, refused}
use Rattle.format.proofs.Judging.{stays, too_wide, narrow_enough}
use Rattle.pool_judge.proofs.write_rules.Goals as goal

pub returns-then-rules-ne0 : goal.returns-then-rules-ne0
returns-then-rules-ne0 c = stays _ _ _ c.record_pass-rules.ensures c.if-rules-ne0.true

pub returns-then-narrative_length-gt31 : goal.returns-then-narrative_length-gt31
returns-then-narrative_length-gt31 c = too_wide _ _ _ c.record_pass-rules.ensures c.if-rules-ne0.false _ c.narrative_length.ensures c.if-narrative_length-gt31.true

pub returns : goal.returns
unfolding pass refused
returns c = narrow_enough _ _ _ c.record_pass-rules.ensures c.if-rules-ne0.false _ c.narrative_length.ensures c.if-narrative_length-gt31.false
