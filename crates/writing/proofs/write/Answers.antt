-- `writing::write` meets its contract: the message is composed in 1,476 bytes, which have room for it. Assumes nothing.
use Rattle.message_type.specs.Shape.{of}
use Rattle.writing.proofs.Answers.{refused, most, within, whole, no-room, written}
use Rattle.writing.proofs.write.Goals as goal

pub returns-then-number-ne0 : goal.returns-then-number-ne0
returns-then-number-ne0 g c = refused (of g.T.MessageType.shape) _ c.judge-number.ensures _ c.if-number-ne0.true

pub compose-length-requires : goal.compose-length-requires
compose-length-requires g c =
    let F = of g.T.MessageType.shape in
    let t = g.met.T.MessageType in
    most F _ c.judge-number.ensures t.laws t.short c.if-number-ne0.false

pub returns-then-buf-length : goal.returns-then-buf-length
returns-then-buf-length g c =
    let F = of g.T.MessageType.shape in
    let t = g.met.T.MessageType in
    no-room F _ c.judge-number.ensures t.laws t.short c.if-number-ne0.false c.compose-length.ensures _ c.if-buf-length.true

pub slice_bounds-message-end : goal.slice_bounds-message-end
slice_bounds-message-end g c =
    let F = of g.T.MessageType.shape in
    let t = g.met.T.MessageType in
    within F _ c.judge-number.ensures t.laws t.short c.if-number-ne0.false c.compose-length.ensures

pub slice_bounds-put-end : goal.slice_bounds-put-end
slice_bounds-put-end g c =
    let F = of g.T.MessageType.shape in
    let t = g.met.T.MessageType in
    whole F _ c.judge-number.ensures t.laws t.short c.if-number-ne0.false c.compose-length.ensures

pub returns : goal.returns
returns g c =
    let F = of g.T.MessageType.shape in
    let t = g.met.T.MessageType in
    let composed = c.compose-length.ensures in
    written F _ c.judge-number.ensures t.laws t.short c.if-number-ne0.false composed _ c.if-buf-length.false c.put.ensures.1
