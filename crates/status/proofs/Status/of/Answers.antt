-- `status::Status::of` meets its contract: the bytes that it lends are the thirty values, by computation. Assumes nothing.
use Prim.Native.Nat.{ℕ}
use mathlib.Core.Path.{◌≡◌, refl}
use mathlib.Core.List.{List}
use Rattle.text.specs.Bytes.{bytes}
use Rattle.forms.specs.Forms.{word_at}
use Rattle.forms.specs.Slots.{reaches, line_in, text_in, words_in, form_of, form_in, slot_at}
use Rattle.status.specs.Statuses.{statuses}
use Rattle.status.proofs.Lines.{Lines, placed_at, no_place}
use Rattle.status.proofs.Status.of.Goals as goal
use Rattle.status.proofs.Status.of.Goals.{After-word_in-place}

-- the bytes that are lent
unfoldable lent : (c : After-word_in-place) → (t : List ℕ) × (c.word_in-place.result ≡ word_at (words_in t 0 30) c.args.value.now)
lent c = (_, c.word_in-place.ensures)

lines : (c : After-word_in-place) → Lines (lent c).0
unfolding lent bytes reaches line_in text_in words_in form_of form_in slot_at statuses
lines c = record { words_are = refl; lines_are = refl; long = refl }

pub returns-then-place-lt30 : goal.returns-then-place-lt30
returns-then-place-lt30 c =
    let w = (goal.at.returns-then-place-lt30 c).After-word_in-place in
    placed_at (lines w) _ _ (lent w).1 c.if-place-lt30.true

pub returns : goal.returns
returns c =
    let w = (goal.at.returns c).After-word_in-place in
    no_place (lines w) _ _ (lent w).1 c.if-place-lt30.false
