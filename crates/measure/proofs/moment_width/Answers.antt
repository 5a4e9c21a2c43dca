-- `measure::moment_width` meets its contract. Assumes nothing.
use mathlib.Core.Path.{sym, ap}
use native.Mathlib.Omega.{arith}
use lib.ListN.{length-take}
use Rattle.calendar.specs.Dates.{moment_number}
use Rattle.forms.specs.Forms.{form_number}
use Rattle.measure.proofs.Laws.{moment-told}
use Rattle.measure.proofs.moment_width.Goals as goal

pub slice_bounds-read-end : goal.slice_bounds-read-end
slice_bounds-read-end c = rw length-take (omega arith)

pub returns : goal.returns
unfolding form_number
returns c = moment-told _ _ (omega arith) (sym (ap moment_number c.in_ok-read.ensures))
