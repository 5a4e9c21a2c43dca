-- `plain::compose` meets its contract: what is put is the message's own stretches, with those of the amounts moved in. Assumes nothing.
-- there are 40 places
use mathlib.Core.Path.{◌≡◌}
use lib.ListN.{length}
use Rattle.format.proofs.Taken.{accepted}
use Rattle.writer.proofs.Plain.{put-moved}
use Rattle.message_type.specs.Shape.{of}
use borrow.Author.Rules.{rules}
use Rattle.plain.proofs.compose.Goals as goal

pub returns : goal.returns
returns g c =
    let F = of g.T.MessageType.shape in
    let t = g.met.T.MessageType in
    let m = c.args.message.now in
    let starts-many : length c.args.body.starts ≡ 40 = search rules in
    let ends-many : length c.args.body.ends ≡ 40 = search rules in
    let (movable, amounts) = t.has_amounts in
    put-moved F t.readable.layout t.laws m (accepted F m c.requires.1) _ movable amounts c.args.body c.requires.0 starts-many ends-many
    c.move_amounts.ensures c.args.buf.now c.put.ensures c.requires.2
