-- `batch::next` meets its contract: past the end, at the end, or a piece that is read. Assumes nothing.
use mathlib.Core.Path.{ap}
use native.Mathlib.Omega.{arith}
use Rattle.pieces.proofs.Answers.{front-within, at_front, at-end, past_end}
use Rattle.message_type.specs.Shape.{of}
use Rattle.reading.specs.Reading.{front_of}
use Rattle.reading.specs.declared.Front.{Front}
use Rattle.batch.specs.Batch.{says_of}
use Rattle.batch.proofs.Answers.{whole}
use Rattle.batch.proofs.next.Goals as goal

pub returns-in-None : goal.returns-in-None
unfolding says_of
returns-in-None g c =
    let F = of g.T.MessageType.shape in
    whole F _ _ (past_end _ _ (says_of F) (omega (arith, c.in-None.ensures.lookup.0)) c.without_message.ensures)

pub returns-in-Some-empty : goal.returns-in-Some-empty
unfolding says_of
returns-in-Some-empty g c =
    let F = of g.T.MessageType.shape in
    let left = c.in-Some-empty.ensures.lookup.0 in
    whole F _ _ (at-end _ _ (says_of F) (omega (arith, left, c.in-Some-empty.len_below)) c.without_message-in-Some-empty.ensures)

pub overflow_add-end : goal.overflow_add-end
unfolding front_of
overflow_add-end g c =
    let F = of g.T.MessageType.shape in
    let left = c.in-Some.ensures.lookup.0 in
    let w = front-within c.args.batch.now c.args.position _ (ap (λ (f : Front F.Held). f.length) (rw left.2 at c.read_front-front.ensures)) left.0 in
    omega arith

pub returns : goal.returns
unfolding front_of says_of
returns g c =
    let F = of g.T.MessageType.shape in
    let left = c.in-Some.ensures.lookup.0 in
    let is = rw left.2 at c.read_front-front.ensures in
    whole F _ _
    (at_front c.args.batch.now c.args.position (says_of F) (omega (arith, left, c.in-Some.len_at_least)) (ap (λ (f : Front F.Held). f.reading) is) (ap (λ (f : Front F.Held). f.length) is))
