-- `reading::read_front` meets its contract: what a glance takes is judged, and all else is cut and goes by the passes. Assumes nothing.
use mathlib.Core.Path.{sym}
use lib.Seq.{length-take-le}
use Rattle.format.proofs.Taken.{glanced-within, glanced-front, front-within, front-passes}
use Rattle.message_type.specs.Shape.{of}
use Rattle.reading.specs.Reading.{judged}
use Rattle.reading.proofs.Answers.{fronted}
use Rattle.reading.proofs.read_front.Goals as goal

pub slice_bounds-judge-end : goal.slice_bounds-judge-end
slice_bounds-judge-end g c =
    sym (length-take-le _ _ (glanced-within (of g.T.MessageType.shape) g.met.T.MessageType.readable _ _ _ _ _ c.in-Some.is c.at_a_look.ensures))

pub returns-in-Some : goal.returns-in-Some
unfolding judged
returns-in-Some g c =
    let F = of g.T.MessageType.shape in
    fronted F _ (glanced-front F g.met.T.MessageType.readable _ _ _ _ _ c.in-Some.is c.at_a_look.ensures) c.judge.ensures

pub slice_bounds-piece-end : goal.slice_bounds-piece-end
slice_bounds-piece-end g c = sym (length-take-le _ _ (front-within _ _ c.piece_end-end.ensures))

pub returns : goal.returns
returns g c = fronted (of g.T.MessageType.shape) _ (front-passes _ _ c.piece_end-end.ensures (of g.T.MessageType.shape)) c.read_taken.ensures
