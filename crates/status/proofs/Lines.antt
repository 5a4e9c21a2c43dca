-- The mathematics of the crate's functions, over plain lists and numbers: bytes whose lines are the thirty values, which is computed.
-- Assumes nothing.
use Prim.Native.Nat.{ℕ, ◌≤◌, ◌<◌}
use mathlib.Core.Path.{◌≡◌, refl, sym, ap, ◌∙◌}
use mathlib.Core.List.{List, [], ◌∷◌, map}
use lib.ListN.{length, get_or, get_or-map}
use borrow.Author.Tests.{lt-ltb, le-ltb}
use Rattle.forms.specs.Forms.{Slot, nothing, other, word_at, is_word}
use Rattle.forms.specs.Slots.{words_in, slot_at}
use Rattle.forms.proofs.Tables.{places, slots-are}
use Rattle.status.specs.Statuses.{statuses, status_of, status_text}
use Rattle.status.specs.declared.Status.{Status}

-- a line that has a word alone
abbrev line_of : List ℕ → Slot
line_of w = record { fixed = w; form = nothing }

fixed_of : (ws : List (List ℕ)) → map (λ (s : Slot). s.fixed) (map line_of ws) ≡ ws
fixed_of [] = refl
fixed_of (w ∷ ws) = ap (λ (l : List (List ℕ)). w ∷ l) (fixed_of ws)

pub record Lines (t : List ℕ) : Type 0 where
  pub words_are : words_in t 0 30 ≡ statuses
  pub lines_are : places t 0 30 ≡ map line_of statuses
  pub long : length t ≡ 600

module _ {t : List ℕ} (l : Lines t) where
  -- the text of a line is the value of the status with its number
  pub text_at : (s : Status) → (slot_at t s.0).fixed ≡ status_text s
  unfolding status_text
  text_at s =
      let none : Slot = record { fixed = []; form = other } in
      ap (λ (x : Slot). x.fixed) (slots-are (map line_of statuses) t 30 l.lines_are l.long s.0)
      ∙ sym (get_or-map (λ (x : Slot). x.fixed) (map line_of statuses) s.0 none)
      ∙ ap (λ (ws : List (List ℕ)). get_or ws s.0 []) (fixed_of statuses)

  -- and the place of a value among the words is the number of its status
  module _ (v : List ℕ) (k : ℕ) (e : k ≡ word_at (words_in t 0 30) v) where
    at : k ≡ word_at statuses v
    at = e ∙ ap (λ (ws : List (List ℕ)). word_at ws v) l.words_are

    pub placed_at : k < 30 → record { 0 = k } ≡ status_of v
    unfolding status_of is_word statuses
    placed_at h = rw (← at, lt-ltb k 30 h)

    pub no_place : 30 ≤ k → record { 0 = 0 } ≡ status_of v
    unfolding status_of is_word statuses
    no_place h = rw (← at, le-ltb k 30 h)
