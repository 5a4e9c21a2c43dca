-- `text::all_in` meets its contract. The loop's invariant: what was seen and what is left answer as the whole does.
-- Assumes nothing.
use mathlib.Core.Path.{◌≡◌}
use mathlib.Core.Bool.{◌&&◌}
use lib.ListN.{drop}
use Rattle.text.specs.Classes.{all_in}
use Rattle.text.proofs.all_in.Given as goal

abbrev pub invariant-loop-byte : goal.invariant-loop-byte
invariant-loop-byte l = (l.good && all_in l.class (drop l.byte-index l.part)) ≡ all_in l.class l.part
