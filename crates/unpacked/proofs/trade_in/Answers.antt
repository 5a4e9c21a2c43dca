-- `unpacked::trade_in` meets its contract. Assumes nothing.
use mathlib.Core.Path.{◌∙◌}
use Rattle.unpacked.specs.Unpacked.{trade_in}
use Rattle.unpacked.proofs.trade_in.Goals as goal

pub returns : goal.returns
unfolding trade_in
returns c =
    c.trade_from.ensures
    ∙ rw (c.kind_from-kind.ensures, c.side_from-side.ensures, c.service_from-service.ensures, c.period_from-period.ensures, c.texts_in-texts.ensures, c.numbers_in-numbers.ensures)
