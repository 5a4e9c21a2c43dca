-- `field::field` meets its contract: the place is a stretch of the message. Assumes nothing.
use native.Mathlib.Omega.{arith}
use Rattle.message_type.specs.Shape.{of}
use Rattle.field.proofs.Finding.{stretch-in, stretch-is}
use Rattle.field.proofs.field.Goals as goal

pub overflow_add-to : goal.overflow_add-to
overflow_add-to g c = let t = g.met.T.MessageType in let w = stretch-in (of g.T.MessageType.shape) t.readable.layout t.laws t.has_fields _ _ _ c.place-found.ensures in omega arith

pub slice_bounds-result-end : goal.slice_bounds-result-end
slice_bounds-result-end g c = let t = g.met.T.MessageType in stretch-in (of g.T.MessageType.shape) t.readable.layout t.laws t.has_fields _ _ _ c.place-found.ensures

pub returns : goal.returns
returns g c = let t = g.met.T.MessageType in stretch-is (of g.T.MessageType.shape) t.readable.layout t.laws t.has_fields _ _ _ c.place-found.ensures
