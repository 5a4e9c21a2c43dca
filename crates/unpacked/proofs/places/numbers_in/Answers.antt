use native.Mathlib.Omega.{arith}
use mathlib.Core.Path.{refl}
use Rattle.unpacked.specs.Unpacked.{number_from, numbers_in}
use Rattle.unpacked.proofs.Bytes.{part-long, read_more, read_done}
use Rattle.unpacked.proofs.places.numbers_in.Goals as goal

pub loop-i-init : goal.loop-i-init
loop-i-init c = (omega arith, refl, refl)

pub number_from-requires : goal.number_from-requires
number_from-requires c = part-long number_from 8 7 319 c.args.packed.now c.loop-i.i (omega arith)

pub loop-i-preserved : goal.loop-i-preserved
loop-i-preserved c = read_more number_from 8 7 319 c.args.packed.now _ c.loop-i.i _ c.loop-i.invariant c.loop-i-test.true c.number_from.ensures

pub returns : goal.returns
unfolding numbers_in
returns c = read_done number_from 8 7 319 c.args.packed.now _ c.loop-i.i c.loop-i.invariant c.loop-i-test.false
