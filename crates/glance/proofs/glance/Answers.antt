-- `glance::glance` meets its contract. Assumes nothing.
use mathlib.Core.Path.{◌≡◌}
use lib.ListN.{length}
use Rattle.stretches.specs.Stretches.{slot_count}
use Rattle.glance.specs.Steps.{HeadSays}
use Rattle.glance.proofs.Turns.{says}
use borrow.Author.Rules.{rules}
use Rattle.glance.proofs.glance.Goals as goal

pub take_body-requires : goal.take_body-requires
unfolding HeadSays
take_body-requires c = c.in_ok-from.ensures.0

pub returns : goal.returns
returns c =
    let long : length c.args.starts.now ≡ slot_count =
    search rules
    in
    let wide : length c.args.ends.now ≡ slot_count =
    search rules
    in
    says _ _ _ _ _ _ _ _ _ _ _ long wide c.in_ok-from.ensures _ c.take_body.ensures
