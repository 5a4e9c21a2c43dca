-- `measure::front` meets its contract. The loop's invariant: the bytes passed are of the class. Assumes nothing.
use mathlib.Core.Path.{◌≡◌}
use mathlib.Core.Bool.{true}
use lib.ListN.{take}
use Rattle.text.specs.Classes.{all_in}
use Rattle.measure.proofs.front.Given as goal

abbrev pub invariant-loop-i : goal.invariant-loop-i
invariant-loop-i l = all_in l.class (take l.i l.text) ≡ true
