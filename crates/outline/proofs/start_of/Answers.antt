-- `outline::start_of` meets its contract. Assumes nothing.
use mathlib.Core.Path.{◌≡◌}
use mathlib.Core.Bool.{true, false}
use lib.Dec.{ltb}
use borrow.Author.Tests.{lt-ltb, le-ltb}
use Rattle.format.specs.Outline.{begun_at}
use Rattle.outline.specs.Outline.{start_at}
use Rattle.outline.proofs.start_of.Goals as goal

pub returns-then-from-to : goal.returns-then-from-to
unfolding start_at begun_at
returns-then-from-to g c =
    let h : ltb c.at-from.result c.at-to.result ≡ true = lt-ltb _ _ c.if-from-to.true in
    rw (← c.slot_of-slot.ensures, ← c.at-from.ensures, ← c.at-to.ensures, h, c.beyond.ensures.0)

pub returns-else-from-to : goal.returns-else-from-to
unfolding start_at begun_at
returns-else-from-to g c =
    let h : ltb c.at-from.result c.at-to.result ≡ false = le-ltb _ _ c.if-from-to.false in
    rw (← c.slot_of-slot.ensures, ← c.at-from.ensures, ← c.at-to.ensures, h)
