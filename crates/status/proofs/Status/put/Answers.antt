-- `status::Status::put` meets its contract: the bytes that it lends are the thirty values, by computation. Assumes nothing.
use Prim.Native.Nat.{ℕ}
use mathlib.Core.Path.{◌≡◌, refl, ◌∙◌}
use mathlib.Core.List.{List}
use Rattle.text.specs.Bytes.{bytes}
use Rattle.forms.specs.Slots.{reaches, line_in, text_in, words_in, form_of, form_in, slot_at}
use Rattle.status.specs.Statuses.{statuses}
use Rattle.status.proofs.Lines.{Lines, text_at}
use Rattle.status.proofs.Status.put.Goals as goal
use Rattle.status.proofs.Status.put.Goals.{After-fixed_text}

-- the bytes that are lent
unfoldable lent : (c : After-fixed_text) → (t : List ℕ) × (c.fixed_text.result.now ≡ (slot_at t c.args.self.0).fixed)
lent c = (_, c.fixed_text.ensures)

lines : (c : After-fixed_text) → Lines (lent c).0
unfolding lent bytes reaches line_in text_in words_in form_of form_in slot_at statuses
lines c = record { words_are = refl; lines_are = refl; long = refl }

pub returns : goal.returns
returns c =
    let w = (goal.at.returns c).After-fixed_text in
    rw (← (lent w).1 ∙ text_at (lines w) c.args.self) c.put.ensures
