-- `answer_rules::has_reason` meets its contract. Assumes nothing.
use Rattle.answer_rules.specs.Rules.{has_reason}
use Rattle.answer_rules.proofs.has_reason.Goals as goal

pub returns : goal.returns
unfolding has_reason
returns c = rw c.reason_at-first.ensures
