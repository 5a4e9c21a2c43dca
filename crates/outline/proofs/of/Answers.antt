-- `outline::of` meets its contract: each call gives where its field begins, or where it ends. Assumes nothing.
use mathlib.Core.Path.{◌≡◌, ◌∙◌}
use Rattle.std.proofs.Common.{rules}
use Rattle.format.specs.Outline.{start_in, end_in}
use Rattle.message_type.specs.Shape.{of}
use Rattle.outline.specs.Outline.{start_at, end_at}
use Rattle.outline.proofs.Made.{made}
use Rattle.outline.proofs.Keeping.{each, whole}
use Rattle.outline.proofs.of.Goals as goal

pub returns : goal.returns
returns g c =
    let t = g.met.T.MessageType in
    let F = of g.T.MessageType.shape in
    let k = g.T.MessageType.line in
    let m = c.args.message.now in
    let b = c.kept-body.result in
    let right = each F k t.readable.layout t.laws t.has_fields t.outlined m b c.kept-body.ensures in
    whole F k t.readable.layout t.laws t.has_fields t.outlined m b c.kept-body.ensures _ _ _
    (made _ _ (start_in F k m) (λ i y q s. (let e : y ≡ start_at F k b.starts b.ends i = search rules in e ∙ (right i).0, search rules)) _ _ c.from_fn.ensures.items)
    (made _ _ (end_in F k m) (λ i y q s. (let e : y ≡ end_at F k b.ends i = search rules in e ∙ (right i).1, search rules)) _ _ c.from_fn-2.ensures.items)
