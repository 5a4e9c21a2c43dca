-- `plain::plain` meets its contract: the reading refuses, or the plain form is composed in 1,476 bytes, which have room for it. Assumes
-- nothing.
use Rattle.message_type.specs.Shape.{of}
use Rattle.plain.proofs.Answers.{refused, good, most, within, whole, no-room, written}
use Rattle.plain.proofs.plain.Goals as goal

pub returns-then-verdict-ne0 : goal.returns-then-verdict-ne0
returns-then-verdict-ne0 g c =
    refused (of g.T.MessageType.shape) g.met.T.MessageType.readable _ c.kept-body.ensures _ c.if-verdict-ne0.true

pub compose-length-requires : goal.compose-length-requires
compose-length-requires g c =
    let F = of g.T.MessageType.shape in
    let t = g.met.T.MessageType in
    let is = c.kept-body.ensures in
    let z = c.if-verdict-ne0.false in
    (is, good F t.readable _ is t.laws t.short z, most F t.readable _ is t.laws t.short z)

pub returns-then-buf-length : goal.returns-then-buf-length
returns-then-buf-length g c =
    let F = of g.T.MessageType.shape in
    let t = g.met.T.MessageType in
    let z = c.if-verdict-ne0.false in
    no-room F t.readable _ c.kept-body.ensures t.laws t.short z c.compose-length.ensures _ c.if-buf-length.true

pub slice_bounds-out-end : goal.slice_bounds-out-end
slice_bounds-out-end g c =
    let F = of g.T.MessageType.shape in
    let t = g.met.T.MessageType in
    within F t.readable _ c.kept-body.ensures t.laws t.short c.if-verdict-ne0.false c.compose-length.ensures

pub slice_bounds-put-end : goal.slice_bounds-put-end
slice_bounds-put-end g c =
    let F = of g.T.MessageType.shape in
    let t = g.met.T.MessageType in
    whole F t.readable _ c.kept-body.ensures t.laws t.short c.if-verdict-ne0.false c.compose-length.ensures

pub returns : goal.returns
returns g c =
    let F = of g.T.MessageType.shape in
    let t = g.met.T.MessageType in
    let z = c.if-verdict-ne0.false in
    written F t.readable _ c.kept-body.ensures t.laws t.short z c.compose-length.ensures _ c.if-buf-length.false c.put.ensures.1
