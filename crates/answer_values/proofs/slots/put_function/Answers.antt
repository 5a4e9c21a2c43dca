-- `answer_values::slots::put_function` meets its contract. Assumes nothing.
use Rattle.text.specs.Bytes.{bytes}
use Rattle.answer_rules.specs.Rules.{of_cancel, function_of}
use Rattle.answer_values.proofs.slots.put_function.Goals as goal

pub returns-then-answer : goal.returns-then-answer
unfolding of_cancel function_of bytes
returns-then-answer c = rw c.if-answer.true c.put.ensures

pub returns-then-is_of : goal.returns-then-is_of
unfolding of_cancel function_of bytes
returns-then-is_of c = rw (c.if-answer.false, ← c.is_of.ensures, c.if-is_of.true) c.put-then-is_of.ensures

pub returns : goal.returns
unfolding of_cancel function_of bytes
returns c = rw (c.if-answer.false, ← c.is_of.ensures, c.if-is_of.false) c.put-2.ensures
