-- `field::is_named` meets its contract. Assumes nothing.
use Prim.Native.Nat.{ℕ}
use mathlib.Core.Path.{◌≡◌, ◌∙◌}
use Rattle.std.proofs.Common.{arith}
use Rattle.std.proofs.lemmas.Bool.Decides.{nat_tests}
use Rattle.std.specs.Ordering.{is_le, nat_cmp}
use lib.Dec.{leb}
use Rattle.text.specs.Classes.{is_between}
use Rattle.field.proofs.is_named.Goals as goal

le-is : (a b : ℕ) → is_le (nat_cmp a b) ≡ leb a b
le-is a b = grind (arith, nat_tests)

pub returns : goal.returns
unfolding is_between
returns g c = let n = c.new.ensures in c.contains.ensures.value ∙ rw (n.start, n.exhausted, n.end, c.fields-last.ensures, le-is 1 c.args.slot, le-is c.args.slot g.T.MessageType.shape.fields)
