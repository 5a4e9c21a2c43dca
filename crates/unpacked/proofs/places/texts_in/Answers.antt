use native.Mathlib.Omega.{arith}
use mathlib.Core.Path.{refl}
use Rattle.unpacked.specs.Unpacked.{text_from, texts_in}
use Rattle.unpacked.proofs.Bytes.{part-long, read_more, read_done}
use Rattle.unpacked.proofs.places.texts_in.Goals as goal

pub loop-i-init : goal.loop-i-init
loop-i-init c = (omega arith, refl, refl)

pub text_from-requires : goal.text_from-requires
text_from-requires c = part-long text_from 21 15 4 c.args.packed.now c.loop-i.i (omega arith)

pub loop-i-preserved : goal.loop-i-preserved
loop-i-preserved c = read_more text_from 21 15 4 c.args.packed.now _ c.loop-i.i _ c.loop-i.invariant c.loop-i-test.true c.text_from.ensures

pub returns : goal.returns
unfolding texts_in
returns c = read_done text_from 21 15 4 c.args.packed.now _ c.loop-i.i c.loop-i.invariant c.loop-i-test.false
