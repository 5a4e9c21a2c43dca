-- `unpacked::places::text_from` meets its contract. Assumes nothing.
use Rattle.unpacked.specs.Unpacked.{text_from}
use Rattle.unpacked.proofs.Bytes.{text-taken}
use mathlib.Core.Path.{refl}
use Rattle.unpacked.proofs.places.text_from.Goals as goal

pub returns : goal.returns
unfolding text_from
returns c = rw (text-taken c.args.place.now _ _ c.requires refl c.put.ensures.1)
