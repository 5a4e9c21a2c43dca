-- `vectors::say_name` meets its contract. Assumes nothing.
use mathlib.Core.Path.{sym, ◌∙◌}
use Rattle.text.specs.Bytes.{bytes}
use Rattle.text.proofs.Laws.{begins-length}
use Rattle.vectors.proofs.say_name.Goals as goal

pub slice_bounds-write_all-count : goal.slice_bounds-write_all-count
unfolding bytes
slice_bounds-write_all-count c = begins-length (bytes "# ") _ (sym c.begins_with.ensures ∙ c.if-begins_with.true)

pub slice_bounds-write_all-start : goal.slice_bounds-write_all-start
unfolding bytes
slice_bounds-write_all-start c = begins-length (bytes "# ") _ (sym c.begins_with.ensures ∙ c.if-begins_with.true)
