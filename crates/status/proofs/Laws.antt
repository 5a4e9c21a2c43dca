-- What callers cite: a status in form and its value tell each other (`status-back`, `status-word`, `status-held`).
-- Assumes nothing.
use Prim.Native.Nat.{ℕ, zero, suc, ◌<◌}
use mathlib.Core.Path.{◌≡◌, refl, sym, ◌∙◌}
use mathlib.Core.Bool.{Bool, true, ◌&&◌, not, true≢false}
use mathlib.Core.List.{List, [], ◌∷◌}
use native.Mathlib.Nat.{not-suc-le-zero, le_of_suc-le-suc}
use lib.ListN.{length, get_or}
use borrow.Author.Tests.{lt-ltb, ltb-true, not-true}
use Rattle.text.specs.Bytes.{bytes, same}
use Rattle.text.proofs.Bools.{is_false}
use Rattle.text.proofs.Laws.{and_left, and_right, same_refl, same-eq}
use Rattle.forms.specs.Forms.{word_at, is_word}
use Rattle.forms.proofs.Laws.{word-at}
use Rattle.status.specs.Statuses.{statuses, status_of, status_text, status_form}
use Rattle.status.specs.declared.Status.{Status}

-- ---- words of which no two are the same

unfoldable apart : List (List ℕ) → Bool
apart [] = true
apart (w ∷ ws) = not (is_word ws w) && apart ws

-- each stands at its own place
word-place : (ws : List (List ℕ)) → apart ws ≡ true → (n : ℕ) → n < length ws → word_at ws (get_or ws n []) ≡ n
unfolding apart is_word word_at
word-place [] a n h = absurd (not-suc-le-zero h)
word-place (w ∷ ws) a zero h = rw (same_refl w)
word-place (w ∷ ws) a (suc n) h =
    let place = word-place ws (and_right (not (is_word ws w)) _ a) n (le_of_suc-le-suc h) in
    rw (is_false (same w (get_or ws n [])) (other place), place)
  where
    -- a word behind the first that is the same would be a place of the first
    other : word_at ws (get_or ws n []) ≡ n → same w (get_or ws n []) ≡ true → ⊥
    other place e =
        let there : is_word ws w ≡ true = rw (same-eq w (get_or ws n []) e, place) (lt-ltb n (length ws) (le_of_suc-le-suc h)) in
        true≢false (sym there ∙ not-true _ (and_left _ _ a))

-- ---- a status and its value

place_of : (s : Status) → status_form s ≡ true → word_at statuses (status_text s) ≡ s.0
unfolding status_form status_text statuses apart is_word word_at same bytes
place_of s f = word-place statuses refl s.0 (ltb-true s.0 (length statuses) f)

-- a status in form is written as one of the thirty,
pub status-word : (s : Status) → status_form s ≡ true → is_word statuses (status_text s) ≡ true
unfolding is_word status_form
status-word s f = rw (place_of s f) f

-- which is read back as that status
pub status-back : (s : Status) → status_form s ≡ true → status_of (status_text s) ≡ s
unfolding status_of
status-back s f = rw (status-word s f, place_of s f)

-- and a value that is one of the thirty is held in form, and written as it was
pub status-held : (v : List ℕ) → is_word statuses v ≡ true → (status_form (status_of v) ≡ true) × (status_text (status_of v) ≡ v)
unfolding status_of status_text status_form is_word
status-held v e = (rw e e, rw e (word-at statuses v e))
