-- `calendar::Date::before` meets its contract. Assumes nothing.
use mathlib.Core.Path.{◌≡◌, ◌∙◌}
use lib.Dec.{ltb}
use native.Mathlib.Omega.{arith}
use Rattle.std.proofs.lemmas.Grind.{common_steps}
use Rattle.calendar.proofs.Laws.{earlier-is}
use Rattle.calendar.proofs.Date.before.Goals as goal

pub returns : goal.returns
returns c =
    let lesser : c.lt.result ≡ ltb c.args.self.0 c.args.other.0 = grind (arith, common_steps) in
    lesser ∙ earlier-is _ _
