-- `answer_rules::is_reject` meets its contract. Assumes nothing.
use Rattle.text.specs.Bytes.{bytes}
use Rattle.answer_rules.specs.Rules.{is_reject}
use Rattle.answer_rules.proofs.is_reject.Goals as goal

pub returns : goal.returns
unfolding is_reject bytes
returns c = rw (c.is-instruction.ensures, c.is-cancel.ensures)
