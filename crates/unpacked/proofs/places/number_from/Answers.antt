-- `unpacked::places::number_from` meets its contract. Assumes nothing.
use mathlib.Core.Path.{ap, ◌∙◌}
use Rattle.std.specs.Int.{from_le_bytes, w64}
use Rattle.unpacked.proofs.Bytes.{low-first}
use Rattle.unpacked.proofs.places.number_from.Goals as goal

pub returns : goal.returns
returns c = c.from_le_bytes.ensures ∙ ap (from_le_bytes w64) c.copy_from_slice.ensures.after ∙ low-first _ c.requires
