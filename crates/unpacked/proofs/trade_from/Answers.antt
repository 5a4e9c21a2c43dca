-- `unpacked::trade_from` meets its contract. Assumes nothing.
use mathlib.Core.Path.{refl}
use Rattle.unpacked.specs.Unpacked.{trade_from}
use Rattle.calendar.specs.Dates.{moment_of}
use Rattle.unpacked.proofs.trade_from.Goals as goal

pub returns : goal.returns
unfolding moment_of trade_from
returns c = refl
