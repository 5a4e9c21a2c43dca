-- `answer_rules::has_forbidden` meets its contract. Assumes nothing.
use Rattle.text.specs.Bytes.{bytes}
use Rattle.answer_rules.specs.Rules.{has_forbidden}
use Rattle.answer_rules.proofs.has_forbidden.Goals as goal

pub returns : goal.returns
unfolding has_forbidden bytes
returns c = rw (c.is_reject-reject.ensures, c.has_reason-reason.ensures, c.is-done.ensures)
