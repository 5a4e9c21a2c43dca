-- `field::place` meets its contract: a refused message, a number that names no field, or a search. Assumes nothing.
use mathlib.Core.Path.{sym, ap, ◌∙◌}
use Rattle.format.specs.declared.Reading.{Reading}
use Rattle.format.proofs.Finding.{turned-away, unnamed, searched}
use Rattle.message_type.specs.Shape.{of}
use Rattle.field.proofs.Steps.{whole}
use Rattle.field.proofs.place.Goals as goal

pub returns-then-reading-ne0 : goal.returns-then-reading-ne0
returns-then-reading-ne0 g c =
    let F = of g.T.MessageType.shape in
    c.nowhere.ensures ∙ whole F _ _ (turned-away F _ _ _ (ap (λ (r : Reading F.Held). r.number) c.read-reading.ensures) c.if-reading-ne0.true)

pub returns-then-not-is_named : goal.returns-then-not-is_named
returns-then-not-is_named g c =
    let F = of g.T.MessageType.shape in
    c.nowhere-then-not-is_named.ensures
    ∙ whole F _ _
    (unnamed F _ _ _ (ap (λ (r : Reading F.Held). r.number) c.read-reading.ensures) c.if-reading-ne0.false (sym c.if-not-is_named.ensures))

pub returns : goal.returns
returns g c =
    let t = g.met.T.MessageType in
    let F = of g.T.MessageType.shape in
    whole F _ _
    (searched F _ _ _ (ap (λ (r : Reading F.Held). r.number) c.read-reading.ensures) c.if-reading-ne0.false
    t.readable.layout t.laws (sym c.if-not-is_named.ensures) _ c.rows.ensures _ c.front_of.ensures _ c.find-found.ensures)
