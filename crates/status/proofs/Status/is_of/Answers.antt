-- `status::Status::is_of` meets its contract: the bytes that it lends are the thirty values, by computation. Assumes nothing.
use Prim.Native.Nat.{ℕ}
use mathlib.Core.Path.{◌≡◌, refl, ap, ◌∙◌}
use mathlib.Core.List.{List}
use Rattle.text.specs.Bytes.{bytes, begins}
use Rattle.forms.specs.Slots.{reaches, line_in, text_in, words_in, form_of, form_in, slot_at}
use Rattle.status.specs.Statuses.{statuses}
use Rattle.status.proofs.Lines.{Lines, text_at}
use Rattle.status.proofs.Status.is_of.Goals as goal

-- the bytes that are lent
unfoldable lent : (c : goal.After-begins_with) → (t : List ℕ) × (c.fixed_text.result.now ≡ (slot_at t c.args.self.0).fixed)
lent c = (_, c.fixed_text.ensures)

lines : (c : goal.After-begins_with) → Lines (lent c).0
unfolding lent bytes reaches line_in text_in words_in form_of form_in slot_at statuses
lines c = record { words_are = refl; lines_are = refl; long = refl }

pub returns : goal.returns
returns c = c.begins_with.ensures ∙ ap (begins c.args.qualifier.now) ((lent c).1 ∙ text_at (lines c) _)
