-- `bars::goes_on` meets its contract. The loop's invariant: what the words that are left say is what all of them say.
-- Assumes nothing.
use mathlib.Core.Path.{◌≡◌}
use Rattle.std.specs.Slice.Iter.{chunks_exact_rest, chunks_exact_size}
use Rattle.bars.specs.Bars.{goes_on}
use Rattle.bars.proofs.goes_on.Given as goal

abbrev pub invariant-loop-word : goal.invariant-loop-word
invariant-loop-word l = (chunks_exact_size l.word-iterator ≡ 4) × (goes_on (chunks_exact_rest l.word-iterator) l.value ≡ goes_on l.words l.value)
