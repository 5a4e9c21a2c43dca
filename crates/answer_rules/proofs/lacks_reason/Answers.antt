-- `answer_rules::lacks_reason` meets its contract. Assumes nothing.
use Rattle.answer_rules.specs.Rules.{lacks_reason}
use Rattle.answer_rules.proofs.lacks_reason.Goals as goal

pub returns : goal.returns
unfolding lacks_reason
returns c = rw (c.is_reject-reject.ensures, c.has_reason-reason.ensures)
